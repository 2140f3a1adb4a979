pub mod RestartLemmas
pub mod ArrivalLemmas
mod BehindLemmas
pub mod BodyLemmas
pub mod ClaimLemmas
pub mod GivenLemmas
pub mod JobLemmas
pub mod MapLemmas
pub mod OutgoingLemmas
pub mod ReceiverLemmas
pub mod SenderLemmas
pub mod TiedLemmas
pub mod ExecutionLemmas
