-- What follows of every job from how it ends.
use Rattle.std.proofs.Common.{◌≡◌, ℕ, ◌⊎◌, Bool, true, false, List, [], take, Option, Some, None, Result, Ok, Err, inl, inr, refl, sym, subst, ap, ◌∙◌}
use Rattle.outside.specs.Shelf.{ShelfState}
use Rattle.outside.specs.Sink.{BrokeOff, SinkState, WroteAll}
use Rattle.outside.specs.declared.shelf.Fetch.{Fetch}
use Rattle.outside.proofs.Runs.{WroteAll-none}
use Rattle.word_readers.specs.declared.operands.FileWord.{FileWord}
use Rattle.command_words.specs.declared.job.Job.{Job}
use Rattle.command_words.specs.Words.{job_of_words}
use Rattle.job_endings.specs.declared.status.Status.{Status}
use Rattle.job_endings.specs.declared.status.Status.TheVariants as status
use Rattle.job_endings.specs.declared.refusal.Refusal.{Refusal}
use Rattle.job_endings.specs.declared.refusal.Refusal.TheVariants.{Usage, Unread, TooLong, Source, Object, Assembly, Input, Faults, Schedule}
use Rattle.job_endings.specs.declared.refusal.Stop.{Stop}
use Rattle.job_endings.specs.declared.refusal.Stop.TheVariants.{Refused, NoMemory}
use Rattle.job_endings.specs.Refusals.{refusal_status}
use Rattle.job_endings.specs.Files.{Given, given_by}
use Rattle.rnm_engine.specs.Jobs.{Answer, lines, refused, answer_lines, answer_status, is_own, Does}
use Rattle.rnm_engine.specs.Answer.{EndsBy, IsAnswer, IsAnswered, IsComplete, IsFinished, IsJobAnswer, LeavesSink, files_of_words}

-- ---- statuses
-- a status with which an answer ends
abbrev pub is_final : Status → Bool
is_final status.NoMemory = false
is_final status.Unwritten = false
is_final status = true

own_is_final : (answer : Answer) → is_own answer ≡ true → is_final (answer_status answer) ≡ true
own_is_final (lines puts status.Ok) h = refl
own_is_final (lines puts status.NoMemory) h = absurd (cc)
own_is_final (lines puts status.Usage) h = refl
own_is_final (lines puts status.Unread) h = refl
own_is_final (lines puts status.Unwritten) h = absurd (cc)
own_is_final (lines puts status.SourceRefused) h = refl
own_is_final (lines puts status.InputRefused) h = refl
own_is_final (lines puts status.PlanRefused) h = refl
own_is_final (lines puts status.Trap) h = refl
own_is_final (lines puts status.Damage) h = refl
own_is_final (lines puts status.Spent) h = refl
own_is_final (lines puts status.ObjectRefused) h = refl
own_is_final (lines puts status.ScriptRefused) h = refl
own_is_final (lines puts status.TooLong) h = refl
own_is_final (refused Usage) h = refl
own_is_final (refused (Unread file)) h = refl
own_is_final (refused (TooLong file)) h = refl
own_is_final (refused (Source fault)) h = refl
own_is_final (refused (Object kind)) h = refl
own_is_final (refused (Assembly kind)) h = refl
own_is_final (refused (Input place)) h = refl
own_is_final (refused (Faults n)) h = refl
own_is_final (refused (Schedule n)) h = refl

refusal_is_final : (refusal : Refusal) → is_final (refusal_status refusal) ≡ true
refusal_is_final Usage = refl
refusal_is_final (Unread file) = refl
refusal_is_final (TooLong file) = refl
refusal_is_final (Source fault) = refl
refusal_is_final (Object kind) = refl
refusal_is_final (Assembly kind) = refl
refusal_is_final (Input place) = refl
refusal_is_final (Faults n) = refl
refusal_is_final (Schedule n) = refl

job_answer_is_final : (job : Option Job) (given : Given) (answer : Answer) → IsJobAnswer job given answer → is_final (answer_status answer) ≡ true
job_answer_is_final None given answer h = ap (λ a. is_final (answer_status a)) h
job_answer_is_final (Some job) (Ok texts) answer h = own_is_final answer h.1
job_answer_is_final (Some job) (Err (Refused refusal)) answer h = ap (λ a. is_final (answer_status a)) h ∙ refusal_is_final refusal
job_answer_is_final (Some job) (Err NoMemory) answer h = absurd h

-- ---- a file that is unread
own_is_read : (answer : Answer) → is_own answer ≡ true → answer_status answer ≡ status.Unread → ⊥
own_is_read (lines puts status.Unread) h e = cc
own_is_read (lines puts status) h e = cc
own_is_read (refused Usage) h e = cc
own_is_read (refused (Unread file)) h e = cc
own_is_read (refused (TooLong file)) h e = cc
own_is_read (refused (Source fault)) h e = cc
own_is_read (refused (Object kind)) h e = cc
own_is_read (refused (Assembly kind)) h e = cc
own_is_read (refused (Input place)) h e = cc
own_is_read (refused (Faults n)) h e = cc
own_is_read (refused (Schedule n)) h e = cc

unread_names : (refusal : Refusal) → refusal_status refusal ≡ status.Unread → (file : FileWord) × (refusal ≡ Unread file)
unread_names Usage e = absurd (cc)
unread_names (Unread file) e = (file, refl)
unread_names (TooLong file) e = absurd (cc)
unread_names (Source fault) e = absurd (cc)
unread_names (Object kind) e = absurd (cc)
unread_names (Assembly kind) e = absurd (cc)
unread_names (Input place) e = absurd (cc)
unread_names (Faults n) e = absurd (cc)
unread_names (Schedule n) e = absurd (cc)

unread_given : (job : Option Job) (given : Given) (answer : Answer) → IsJobAnswer job given answer → answer_status answer ≡ status.Unread → (file : FileWord) × (given ≡ Err (Refused (Unread file)))
unread_given None given answer h e = absurd (let usage : status.Usage ≡ status.Unread = sym (ap answer_status h) ∙ e in cc)
unread_given (Some job) (Ok texts) answer h e = absurd (own_is_read answer h.1 e)
unread_given (Some job) (Err (Refused refusal)) answer h e =
    let named = unread_names refusal (sym (ap answer_status h) ∙ e) in
    (named.0, ap (λ r. Err (Refused r)) named.1)
unread_given (Some job) (Err NoMemory) answer h e = absurd h

-- ---- what an answer over no texts for want of memory is
without_memory : (job : Option Job) (given other : Given) (answer : Answer) → given ≡ Err NoMemory → IsJobAnswer job given answer → IsJobAnswer job other answer
without_memory None given other answer e h = h
without_memory (Some job) given other answer e h =
    let none : ⊥ = subst (λ g. IsJobAnswer (Some job) g answer) e h in absurd none

module _ {K : Type 0} (puts : K → List ℕ → K → Type 0) (state : K → SinkState) (words : List (List ℕ)) (old : K) where
  -- ---- commands
  pub Does-as : (Is Other : Answer → Type 0) → ((answer : Answer) → Is answer → Other answer) → (result : Result Status Stop) (new : K) → Does puts state old Is result new → Does puts state old Other result new
  Does-as Is Other f (Ok result) new (pieces, own, is, ends) = (pieces, own, f (lines pieces own) is, ends)
  Does-as Is Other f (Err (Refused refusal)) new (is, same) = (f (refused refusal) is, same)
  Does-as Is Other f (Err NoMemory) new h = h

  -- a job that stops before anything is put
  pub stop_does : (job : Job) (stop : Stop) → Does puts state old (IsJobAnswer (Some job) (Err stop)) (Err stop) old
  stop_does job (Refused refusal) = (refl, refl)
  stop_does job NoMemory = refl

  -- what a command leaves, and then its end
  pub finished : (Is : Answer → Type 0) (done : Result Status Stop) (mid : K) (result : Status) (new : K) → Does puts state old Is done mid → IsFinished puts state words done mid result new → EndsBy puts state words old Is result new
  finished Is (Ok own) mid result new (pieces, status, is, ends) (same, stays) = inl (lines pieces status, is, rw (same, stays) ends)
  finished Is (Err (Refused refusal)) mid result new (is, same) h =
      elim (rw same at h) [ inl ends ↦ inl (refused refusal, is, ends) | inr memory ↦ inr memory ]
  finished Is (Err NoMemory) mid result new same (memory, stays) =
      inr (memory, subst (λ (k : K). WroteAll puts state old [] k) (sym (stays ∙ same)) (WroteAll-none old))

  -- ---- the sink
  -- nothing is put, or an answer whole, or a put failed
  abbrev Way : Status → K → Type 0
  Way result new =
      ((result ≡ status.NoMemory) × WroteAll puts state old [] new)
      ⊎ (((is_final result ≡ true) × (pieces : List (List ℕ)) × WroteAll puts state old pieces new)
      ⊎ ((result ≡ status.Unwritten) × (pieces : List (List ℕ)) × BrokeOff puts state old pieces new))

  way_of : (given : Given) (result : Status) (new : K) → EndsBy puts state words old (IsAnswer words given) result new → Way result new
  way_of given result new ends =
      elim ends [
        | inl (answer, is, put) ↦ elim put [
          | inl (same, wrote) ↦ inr (inl (ap is_final same ∙ job_answer_is_final (job_of_words words) given answer is, answer_lines words answer, wrote))
          | inr (broke_is, (n, broke)) ↦ inr (inr (broke_is, take n (answer_lines words answer), broke))
        ]
        | inr without ↦ inl without
      ]

  pub leaves_sink : (given : Given) (result : Status) (new : K) → EndsBy puts state words old (IsAnswer words given) result new → LeavesSink puts state old result new
  leaves_sink given result new ends =
      let way = way_of given result new ends in
      record {
        nothing = λ memory. elim way [
          | inl without ↦ without.1
          | inr more ↦ elim more [
            | inl whole ↦ absurd (let e : is_final status.NoMemory ≡ true = sym (ap is_final memory) ∙ whole.0 in cc)
            | inr broke ↦ absurd (let e : status.Unwritten ≡ status.NoMemory = sym broke.0 ∙ memory in cc)
          ]
        ];
        unwritten = λ unwritten. elim way [
          | inl without ↦ absurd (let e : status.NoMemory ≡ status.Unwritten = sym without.0 ∙ unwritten in cc)
          | inr more ↦ elim more [
            | inl whole ↦ absurd (let e : is_final status.Unwritten ≡ true = sym (ap is_final unwritten) ∙ whole.0 in cc)
            | inr broke ↦ broke.2.rose
          ]
        ];
        written = λ other. elim way [
          | inl without ↦ without.1.count
          | inr more ↦ elim more [ inl whole ↦ whole.2.count | inr broke ↦ absurd (other broke.0) ]
        ];
        timely = elim way [
          | inl without ↦ without.1.timely
          | inr more ↦ elim more [ inl whole ↦ whole.2.timely | inr broke ↦ broke.2.timely ]
        ];
      }

  pub usage_ends : (given : Given) (result : Status) (new : K) → job_of_words words ≡ None → (result ≡ status.NoMemory → ⊥) → EndsBy puts state words old (IsAnswer words given) result new
      → (result ≡ status.Usage) ⊎ (result ≡ status.Unwritten)
  usage_ends given result new none memory ends =
      elim ends [
        | inl (answer, is, put) ↦
            let usage : answer ≡ refused Usage = subst (λ j. IsJobAnswer j given answer) none is in
            elim put [ inl whole ↦ inl (whole.0 ∙ ap answer_status usage) | inr broke ↦ inr broke.0 ]
        | inr without ↦ absurd (memory without.0)
      ]

  pub unread_ends : (given : Given) (result : Status) (new : K) → result ≡ status.Unread → EndsBy puts state words old (IsAnswer words given) result new → (file : FileWord) × (given ≡ Err (Refused (Unread file)))
  unread_ends given result new unread ends =
      elim ends [
        | inl (answer, is, put) ↦ elim put [
          | inl whole ↦ unread_given (job_of_words words) given answer is (sym whole.0 ∙ unread)
          | inr broke ↦ absurd (let e : status.Unwritten ≡ status.Unread = sym broke.0 ∙ unread in cc)
        ]
        | inr without ↦ absurd (let e : status.NoMemory ≡ status.Unread = sym without.0 ∙ unread in cc)
      ]

-- ---- where the shelf tells what it holds and nothing fails
module _ {S K : Type 0} (fetches : S → List ℕ → ℕ → Fetch → List ℕ → S → Type 0) (shelf_state : S → ShelfState) (puts : K → List ℕ → K → Type 0) (sink_state : K → SinkState)
    (words : List (List ℕ)) (shelf : S) (sink : K) (result : Status) (shelf_after : S) (sink_after : K) where
  pub completes : IsAnswered fetches shelf_state puts sink_state words shelf sink result shelf_after sink_after → IsComplete shelf_state puts sink_state words shelf sink result shelf_after sink_after
  completes h = record {
    whole = λ held told no_fetch_fault no_put_fault.
        let everywhere = given_by words held (files_of_words words) in
        let over : (answer : Answer) → IsAnswer words h.given answer → IsAnswer words everywhere answer = λ answer is.
        elim (h.explained held told) [
          | inl whole ↦ subst (λ g. IsAnswer words g answer) whole is
          | inr others ↦ elim others [
            | inl memory ↦ without_memory (job_of_words words) h.given everywhere answer memory is
            | inr fault ↦ absurd (no_fetch_fault fault.0)
          ]
        ] in
        elim h.ends [
          | inl (answer, is, put) ↦ elim put [
            | inl (same, wrote) ↦ inr (answer, over answer is, same, wrote)
            | inr (broke_is, (n, broke)) ↦ absurd (no_put_fault broke.rose)
          ]
          | inr without ↦ inl without
        ];
  }
