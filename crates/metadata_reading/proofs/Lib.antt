mod ReadingSteps
mod MetadataSteps
mod BraceSteps
mod TextSteps
