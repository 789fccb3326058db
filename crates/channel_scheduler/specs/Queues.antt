-- What waits for each channel, kept as one list of the last operations issued and a count for each channel.
use Rattle.std.specs.Prelude.{◌≡◌, ℕ, ◌-◌, ◌≤◌, ◌==◌, List, All, map, drop, length, sum, count_by}
use Rattle.channel_alu.specs.declared.operation.MicroOp.{MicroOp}

-- the queues: for each channel the last operations, as many as wait for it
abbrev pub queues_of : List MicroOp → List ℕ → List (List MicroOp)
queues_of recent backlogs = map (λ backlog. drop (length recent - backlog) recent) backlogs

-- the counts are those of the backlogs: how many operations wait in all, and how many backlogs are 8
pub record AreCounts (recent : List MicroOp) (backlogs : List ℕ) (waiting full : ℕ) : Type 0 where
  pub recent_in : length recent ≤ 8
  pub channels_in : length backlogs ≤ 12
  pub backlogs_in : All (λ backlog. backlog ≤ length recent) backlogs
  pub waiting_is : waiting ≡ sum backlogs
  pub full_is : full ≡ count_by (λ backlog. backlog == 8) backlogs
