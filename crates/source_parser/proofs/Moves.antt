-- How readers, one after the other, land where what is wanted of them does.
use Rattle.std.proofs.Common.{◌≡◌, ℕ, List, [], ◌∷◌, ◌++◌, length, refl, ap, sym, ◌∙◌, append_assoc, Option, Some, None, Result, Ok, Err}
use Rattle.std.specs.Result.{IsErrAnd}
use Rattle.source_parser.specs.declared.fault.Fault.{Fault}
use Rattle.source_parser.specs.declared.fault.Fault.TheVariants.{Stops, Deep, NoMemory}
use Rattle.source_parser.specs.Limits.{depth_limit, weight_limit}
use Rattle.source_parser.specs.Terminals.{Terminal, kinds_of}
use Rattle.source_parser.specs.Wants.{Want, declarations, statements, Outcome, run, stopped, too_deep}
use Rattle.source_parser.specs.Landings.{Leads, Comes, Lands, reads, stops, deepens, no_memory, LandsNext, reads_one, reads_none, stops_there, deepens_there, lacks_memory, IsFaultOf}

-- ---- what is wanted, a part after the other
pub at_start : {wants : List Want} {old : List Terminal} {d w : ℕ} → Leads wants old d w wants old d w
at_start = record { leads = λ s. refl }

pub joined : {wants middle others : List Want} {old now new : List Terminal} {d w e v d' w' : ℕ}
    → Leads wants old d w middle now e v → Leads middle now e v others new d' w' → Leads wants old d w others new d' w'
joined first second = record { leads = λ s. first.leads s ∙ second.leads s }

-- a part that comes first in what is wanted
pub onward : (more : List Want) {wants part others : List Want} {old now new : List Terminal} {d w e v d' w' : ℕ}
    → Leads part now e v others new d' w' → Leads wants old d w (part ++ more) now e v → Leads wants old d w (others ++ more) new d' w'
onward more {part = part} {others = others} {now = now} {new = new} {e = e} {v = v} {d' = d'} {w' = w'} way so_far = record {
  leads = λ s.
      so_far.leads s ∙ ap (λ (xs : List Want). run weight_limit (kinds_of now) xs e v) (append_assoc part more s)
      ∙ way.leads (more ++ s) ∙ sym (ap (λ (xs : List Want). run weight_limit (kinds_of new) xs d' w') (append_assoc others more s));
}

pub comes_to : (more : List Want) {wants part : List Want} {old now : List Terminal} {d w e v : ℕ} {outcome : Outcome}
    → Comes part now e v outcome → Leads wants old d w (part ++ more) now e v → Comes wants old d w outcome
comes_to more {part = part} {now = now} {e = e} {v = v} h so_far = record {
  comes = λ s. so_far.leads s ∙ ap (λ (xs : List Want). run weight_limit (kinds_of now) xs e v) (append_assoc part more s) ∙ h.comes (more ++ s);
}

-- ---- what a reader answers
landed : {A : Type 0} {wants : List Want} {old new : List Terminal} {d w d' w' : ℕ} {found : A} → Lands wants old d w (Ok found) new d' w' → Leads wants old d w [] new d' w'
landed (reads way) = way

pub and_then : (more : List Want) {A : Type 0} {wants part : List Want} {old now new : List Terminal} {d w e v d' w' : ℕ} {found : A}
    → Lands part now e v (Ok found) new d' w' → Leads wants old d w (part ++ more) now e v → Leads wants old d w more new d' w'
and_then more lands so_far = onward more (landed lands) so_far

-- a last part, whatever it answers
pub ends_with : {A : Type 0} {wants part : List Want} {old now new : List Terminal} {d w e v d' w' : ℕ} {result : Result A Fault}
    → Lands part now e v result new d' w' → Leads wants old d w part now e v → Lands wants old d w result new d' w'
ends_with (reads way) so_far = reads (joined so_far way)
ends_with (stops h) so_far = stops (record { comes = λ s. so_far.leads s ∙ h.comes s })
ends_with (deepens h) so_far = deepens (record { comes = λ s. so_far.leads s ∙ h.comes s })
ends_with no_memory so_far = no_memory

-- ---- a fault of a part is one of the whole
pub fails : (more : List Want) {A B : Type 0} {wants part : List Want} {old now new : List Terminal} {d w e v d' w' d'' w'' : ℕ} {result : Result B Fault} {fault : Fault}
    → Lands {A = A} part now e v (Err fault) new d' w' → IsErrAnd result (λ own. own ≡ fault)
    → Leads wants old d w (part ++ more) now e v → Lands wants old d w result new d'' w''
fails more {result = Ok x} lands own so_far = absurd own
fails more {result = Err NoMemory} lands own so_far = no_memory
fails more {result = Err Stops} (stops h) own so_far = stops (comes_to more h so_far)
fails more {result = Err Stops} (deepens h) own so_far = absurd cc
fails more {result = Err Stops} no_memory own so_far = absurd cc
fails more {result = Err Deep} (stops h) own so_far = absurd cc
fails more {result = Err Deep} (deepens h) own so_far = deepens (comes_to more h so_far)
fails more {result = Err Deep} no_memory own so_far = absurd cc

pub fails_next : (more : List Want) {A B : Type 0} {want : Want} {part : List Want} {old now new : List Terminal} {d w e v d' w' : ℕ} {result : Result (Option B) Fault} {fault : Fault}
    → Lands {A = A} part now e v (Err fault) new d' w' → IsErrAnd result (λ own. own ≡ fault)
    → Leads (want ∷ []) old d w (part ++ more) now e v → LandsNext want old d w result new
fails_next more {result = Ok x} lands own so_far = absurd own
fails_next more {result = Err NoMemory} lands own so_far = lacks_memory
fails_next more {result = Err Stops} (stops h) own so_far = stops_there (comes_to more h so_far)
fails_next more {result = Err Stops} (deepens h) own so_far = absurd cc
fails_next more {result = Err Stops} no_memory own so_far = absurd cc
fails_next more {result = Err Deep} (stops h) own so_far = absurd cc
fails_next more {result = Err Deep} (deepens h) own so_far = deepens_there (comes_to more h so_far)
fails_next more {result = Err Deep} no_memory own so_far = absurd cc

-- the same of a thing that need not be there
pub fails_in : {A B : Type 0} {want : Want} {wants more : List Want} {old now new : List Terminal} {d w e v d'' w'' : ℕ} {result : Result B Fault} {fault : Fault}
    → LandsNext {A = A} want now e v (Err fault) new → IsErrAnd result (λ own. own ≡ fault)
    → Leads wants old d w (want ∷ more) now e v → Lands wants old d w result new d'' w''
fails_in {more = more} {result = Ok x} lands own so_far = absurd own
fails_in {more = more} {result = Err NoMemory} lands own so_far = no_memory
fails_in {more = more} {result = Err Stops} (stops_there h) own so_far = stops (comes_to more h so_far)
fails_in {more = more} {result = Err Stops} (deepens_there h) own so_far = absurd cc
fails_in {more = more} {result = Err Stops} lacks_memory own so_far = absurd cc
fails_in {more = more} {result = Err Deep} (stops_there h) own so_far = absurd cc
fails_in {more = more} {result = Err Deep} (deepens_there h) own so_far = deepens (comes_to more h so_far)
fails_in {more = more} {result = Err Deep} lacks_memory own so_far = absurd cc

one_read : {A : Type 0} {want : Want} {old new : List Terminal} {d w : ℕ} {found : A} → LandsNext want old d w (Ok (Some found)) new → Leads (want ∷ []) old d w (want ∷ []) new d w
one_read (reads_one way) = way

none_read : {A : Type 0} {want : Want} {old new : List Terminal} {d w : ℕ} → LandsNext {A = A} want old d w (Ok None) new → Leads (want ∷ []) old d w [] new d w
none_read (reads_none way) = way

pub and_again : {A : Type 0} {want : Want} {wants : List Want} {old now new : List Terminal} {d w e v : ℕ} {found : A}
    → LandsNext want now e v (Ok (Some found)) new → Leads wants old d w (want ∷ []) now e v → Leads wants old d w (want ∷ []) new e v
and_again lands so_far = joined so_far (one_read lands)

pub and_no_more : {A : Type 0} {want : Want} {wants : List Want} {old now new : List Terminal} {d w e v : ℕ}
    → LandsNext {A = A} want now e v (Ok None) new → Leads wants old d w (want ∷ []) now e v → Leads wants old d w [] new e v
and_no_more lands so_far = joined so_far (none_read lands)

-- ---- a fault of its own
pub gives_up : (more : List Want) {A : Type 0} {wants part : List Want} {old now new : List Terminal} {d w e v d' w' : ℕ} {result : Result A Fault} {fault : Fault}
    → Comes part now e v (stopped (kinds_of now)) → fault ≡ Stops → new ≡ now → IsErrAnd result (λ own. own ≡ fault)
    → Leads wants old d w (part ++ more) now e v → Lands wants old d w result new d' w'
gives_up more {result = Ok x} h is same own so_far = absurd own
gives_up more {result = Err Stops} h is same own so_far = stops (rw same (comes_to more h so_far))
gives_up more {result = Err Deep} h is same own so_far = absurd cc
gives_up more {result = Err NoMemory} h is same own so_far = no_memory

pub nests_too_deep : (more : List Want) {A : Type 0} {wants part : List Want} {old now new : List Terminal} {d w e v d' w' : ℕ} {result : Result A Fault} {fault : Fault}
    → Comes part now e v (too_deep (kinds_of now)) → fault ≡ Deep → new ≡ now → IsErrAnd result (λ own. own ≡ fault)
    → Leads wants old d w (part ++ more) now e v → Lands wants old d w result new d' w'
nests_too_deep more {result = Ok x} h is same own so_far = absurd own
nests_too_deep more {result = Err Deep} h is same own so_far = deepens (rw same (comes_to more h so_far))
nests_too_deep more {result = Err Stops} h is same own so_far = absurd cc
nests_too_deep more {result = Err NoMemory} h is same own so_far = no_memory

pub next_too_deep : {A : Type 0} {want : Want} {now new : List Terminal} {e v : ℕ} {result : Result (Option A) Fault} {fault : Fault}
    → Comes (want ∷ []) now e v (too_deep (kinds_of now)) → fault ≡ Deep → new ≡ now → IsErrAnd result (λ own. own ≡ fault)
    → LandsNext want now e v result new
next_too_deep {result = Ok x} h is same own = absurd own
next_too_deep {result = Err Deep} h is same own = deepens_there (rw same h)
next_too_deep {result = Err Stops} h is same own = absurd cc
next_too_deep {result = Err NoMemory} h is same own = lacks_memory

-- a part, whatever it answers, and after it what need not be there
pub within : (want : Want) {A : Type 0} {wants part : List Want} {old now new : List Terminal} {d w e v d' w' d'' w'' : ℕ} {result : Result A Fault}
    → Lands part now e v result new d' w' → ((s : List Want) → run weight_limit (kinds_of new) (want ∷ s) d' w' ≡ run weight_limit (kinds_of new) s d'' w'')
    → Leads wants old d w (part ++ want ∷ []) now e v → Lands wants old d w result new d'' w''
within want (reads way) after so_far = reads (joined (onward (want ∷ []) way so_far) (record { leads = after }))
within want (stops h) after so_far = stops (comes_to (want ∷ []) h so_far)
within want (deepens h) after so_far = deepens (comes_to (want ∷ []) h so_far)
within want no_memory after so_far = no_memory

-- ---- the whole
pub fault_of : (more : List Want) {A B : Type 0} {part : List Want} {old now new : List Terminal} {e v d' w' : ℕ} (result : Result B Fault) {fault : Fault}
    → Lands {A = A} part now e v (Err fault) new d' w' → IsErrAnd result (λ own. own ≡ fault)
    → Leads (declarations ∷ statements ∷ []) old depth_limit weight_limit (part ++ more) now e v → IsFaultOf old result new
fault_of more (Ok x) lands own so_far = absurd own
fault_of more (Err NoMemory) lands own so_far = tt
fault_of more (Err Stops) (stops h) own so_far = (comes_to more h so_far).comes []
fault_of more (Err Stops) (deepens h) own so_far = absurd cc
fault_of more (Err Stops) no_memory own so_far = absurd cc
fault_of more (Err Deep) (stops h) own so_far = absurd cc
fault_of more (Err Deep) (deepens h) own so_far = (comes_to more h so_far).comes []
fault_of more (Err Deep) no_memory own so_far = absurd cc

none_wanted : (terminals : List Terminal) (d w : ℕ) → (length terminals ≡ 0 → ⊥) → run weight_limit (kinds_of terminals) [] d w ≡ stopped (kinds_of terminals)
none_wanted [] d w some = absurd (some refl)
none_wanted (t ∷ terminals) d w some = refl

-- terminals are left after a program
pub left_over : {old new : List Terminal} {d w : ℕ} → (length new ≡ 0 → ⊥) → Leads (declarations ∷ statements ∷ []) old depth_limit weight_limit [] new d w
    → run weight_limit (kinds_of old) (declarations ∷ statements ∷ []) depth_limit weight_limit ≡ stopped (kinds_of new)
left_over {new = new} {d = d} {w = w} some so_far = so_far.leads [] ∙ none_wanted new d w some
