pub mod FixtureSound
pub mod FreeFrames
pub mod GivenFrames
pub mod ListedFrames
pub mod PageBytes
pub mod Turn
