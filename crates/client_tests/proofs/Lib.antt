mod ClientLemmas
mod ProgramLemmas
