mod ListTexts
mod RunSteps
mod Shared
mod SizeNumbers
mod StepNames
