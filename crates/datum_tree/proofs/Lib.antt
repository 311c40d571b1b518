mod CountLemmas
mod FitLemmas
pub mod SpelledFits
