mod AloneLemmas
mod CountLemmas
pub mod EachLemmas
mod EndLemmas
mod FileLemmas
pub mod FitLemmas
mod FrontLemmas
pub mod HeldsLemmas
mod InnerLemmas
mod KeptLemmas
mod KeptsLemmas
pub mod LeftLemmas
mod OrderLemmas
mod PartLemmas
mod RestrictLemmas
mod RunLemmas
mod SentLemmas
mod SoundLemmas
mod SplitLemmas
mod StepLemmas
mod SureLemmas
mod TakeLemmas
pub mod TellLemmas
mod TurnLemmas
mod WholeLemmas
