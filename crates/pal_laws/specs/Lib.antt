pub mod GrammarReading
