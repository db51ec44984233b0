pub mod Commands
pub mod Laid
pub mod TooFew
pub mod OwnPages
pub mod Together
pub mod Untaken
