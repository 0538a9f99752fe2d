pub mod LawfulFact
