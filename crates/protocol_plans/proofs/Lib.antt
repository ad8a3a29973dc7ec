pub mod PlansHavePrograms
