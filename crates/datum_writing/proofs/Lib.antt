mod PutLemmas
mod WritingEquations
mod SpelledLemmas
mod SpelledSteps
