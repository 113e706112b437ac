mod CompletionProof
mod OrderSteps
mod Shared
mod StrictOrders
mod TrackerSteps
mod Transactions
mod Weights
