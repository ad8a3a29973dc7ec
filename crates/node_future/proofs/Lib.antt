pub mod SetOfNodes
