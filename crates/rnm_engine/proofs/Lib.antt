mod AnswerLemmas
mod ExecLemmas
mod MeanLemmas
mod ObjectLemmas
mod ScheduleLemmas
