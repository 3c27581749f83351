pub mod AskLaws
mod MeetingLaws
mod Places
mod WritingLaws
