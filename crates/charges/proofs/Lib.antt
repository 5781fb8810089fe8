pub mod AtLeastZero
