pub mod BadBounds
