pub mod FaultTimes
mod Times
mod Runs
pub mod OneText
mod JoinedTexts
