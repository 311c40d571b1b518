mod WordLemmas
mod NumberLemmas
mod CountLaws
mod LiteralSteps
mod LiteralRuns
mod HexSteps
