pub mod FlowCount
