-- A rack with queues against the turns as counts.
use Rattle.std.proofs.Common.{◌≡◌, ℕ, ◌+◌, ◌-◌, ◌<◌, ◌≤◌, cond, ltb, All, List, [], ◌∷◌, ◌++◌, map, length, take, drop, refl, sym, ap, ◌∙◌, subst, inl, inr, arith}
use Rattle.std.proofs.Math.ListN.{set}
use Rattle.std.proofs.lemmas.Bool.{cond-true, cond-false, lt-ltb, le-ltb, cases_lt, cases_eq}
use Rattle.std.proofs.lemmas.List.{length-set, length-append, length-map, length-take-le, length-drop, get_or-set_same, get_or-set_other, get_or-take, get_or-map, get_or_append_left, take_more, take-append-le, take_all, take-append-drop, drop_more, drop_all, drop-append-le, map_push, ext_get_or}
use Rattle.std.proofs.lemmas.List.Elements.{All-get_or, All-head, All-tail, All-weaker}
use Rattle.channel_alu.specs.declared.operation.MicroOp.{MicroOp}
use Rattle.channel_alu.specs.declared.operation.MicroOp.TheVariants.{Show}
use Rattle.channel_alu.specs.declared.operation.Place.TheVariants.{Reg}
use Rattle.fault_book.specs.Book.{Book}
use Rattle.channel_lane.specs.Lane.{LaneState, answer_of, lane_after, lane_after_all}
use Rattle.channel_lane.proofs.LaneLemmas.{after_all-parts, answers-after_all}
use Rattle.lane_bank.specs.Bank.{no_lane, lane_at}
use Rattle.channel_scheduler.specs.declared.entry.Entry.{Entry}
use Rattle.fault_book.specs.declared.schedule.Turn.TheVariants.{Lane}
use Rattle.lane_bank.specs.Bank.{lanes_after_all}
use Rattle.channel_scheduler.specs.Counts.{Standing, performed_by, backlog, after_issue, after_performing, after_turn}
use Rattle.channel_scheduler.specs.Channels.{ChannelState, no_operations, queue_at, performed, performed_from, caught_up}
use Rattle.channel_scheduler.specs.Moments.{operation_at, lane_by, entry_of, Holds}
use Rattle.channel_scheduler.proofs.CatchingLemmas.{length-caught_up, caught_up-at}
use Rattle.channel_scheduler.proofs.CountLemmas.{IsSound, done-at, take-longer, after_performing-is, after_idle-is}

abbrev nothing : MicroOp
nothing = Show (Reg 0)

-- ---- a journal that keeps its first entries
take-noted : (room : ℕ) (all kept : List Entry) (e : Entry) → kept ≡ take room all → cond (ltb (length kept) room) (kept ++ e ∷ []) kept ≡ take room (all ++ e ∷ [])
take-noted room all kept e h =
    elim (cases_lt (length all) room) [
      | inl below ↦
          let whole : kept ≡ all = h ∙ take_all room all (omega arith) in
          let count : length kept < room = omega (arith, ap length whole) in
          cond-true (ltb (length kept) room) (kept ++ e ∷ []) kept (lt-ltb (length kept) room count)
          ∙ (ap (λ xs. xs ++ e ∷ []) whole ∙ sym (take_all room (all ++ e ∷ []) (omega (arith, length-append all (e ∷ [])))))
      | inr above ↦
          let count : room ≤ length kept = omega (arith, ap length h, length-take-le room all above) in
          cond-false (ltb (length kept) room) (kept ++ e ∷ []) kept (le-ltb (length kept) room count)
          ∙ (h ∙ sym (take-append-le room all (e ∷ []) above))
    ]

-- ---- one channel's share
lane_by-more : (book : Book) (start : List LaneState) (ops : List MicroOp) (i done : ℕ) → done < length ops → lane_after book (operation_at ops done) (lane_by book start ops i done) ≡ lane_by book start ops i (done + 1)
lane_by-more book start ops i done h =
    sym (ap (λ front. lane_after_all book front (lane_at start i)) (take_more ops done nothing h)
    ∙ after_all-parts book (take done ops) (operation_at ops done ∷ []) (lane_at start i))

lane_by-answers : (book : Book) (start : List LaneState) (ops : List MicroOp) (i done : ℕ) → i < length start → done ≤ length ops → All (λ lane. lane.answers ≡ 0) start → (lane_by book start ops i done).answers ≡ done
lane_by-answers book start ops i done hi h fresh =
    let none : (lane_at start i).answers ≡ 0 = All-get_or (λ lane. lane.answers ≡ 0) start i no_lane hi fresh in
    omega (arith, answers-after_all book (take done ops) (lane_at start i), length-take-le done ops h)

backlog-first : (ops : List MicroOp) (issued done : ℕ) → done < issued → issued ≤ length ops → backlog ops issued done ≡ operation_at ops done ∷ backlog ops issued (done + 1)
backlog-first ops issued done h fits =
    drop_more (take issued ops) done nothing (omega (arith, length-take-le issued ops fits))
    ∙ ap (λ op. op ∷ backlog ops issued (done + 1)) (get_or-take issued ops done nothing h)

pub backlog-none : (ops : List MicroOp) (issued done : ℕ) → issued ≤ done → issued ≤ length ops → backlog ops issued done ≡ []
backlog-none ops issued done h fits = drop_all done (take issued ops) (omega (arith, length-take-le issued ops fits))

pub backlog-more : (ops : List MicroOp) (issued done : ℕ) → done ≤ issued → issued < length ops → backlog ops (issued + 1) done ≡ backlog ops issued done ++ operation_at ops issued ∷ []
backlog-more ops issued done h fits =
    ap (drop done) (take_more ops issued nothing fits)
    ∙ drop-append-le done (take issued ops) (operation_at ops issued ∷ []) (omega (arith, length-take-le issued ops (omega arith)))

pub length-backlog : (ops : List MicroOp) (issued done : ℕ) → issued ≤ length ops → length (backlog ops issued done) ≡ issued - done
length-backlog ops issued done fits = omega (arith, length-drop done (take issued ops), length-take-le issued ops fits)

-- ---- a channel's turn
module _ (book : Book) (start : List LaneState) (ops : List MicroOp) (t : Standing) (s : ChannelState) (i : ℕ) (inside : i < length start) (sound : IsSound ops (length start) t) (h : Holds book start ops t s) where
  busy : (rest : List MicroOp) → performed_by t i < t.issued → rest ≡ backlog ops t.issued (performed_by t i + 1) → Holds book start ops (after_performing t i) (performed_from book s i (operation_at ops (performed_by t i) ∷ rest))
  busy rest below rest_is =
      let done = performed_by t i in
      let op = operation_at ops done in
      let lane = lane_at s.lanes i in
      let fits = sound.issued_in in
      let count = sound.count in
      let queues_count = h.queues_count in
      let lanes_count = h.lanes_count in
      let lane_is : lane ≡ lane_by book start ops i done = h.lanes i inside in
      record {
        fresh = h.fresh;
        turns = h.turns;
        lanes_count = length-set s.lanes i (lane_after book op lane) ∙ h.lanes_count;
        queues_count = length-set s.queues i rest ∙ h.queues_count;
        lanes = λ j k. elim (cases_eq j i) [
          | inl same ↦
              ap (λ x. lane_at (set s.lanes i (lane_after book op lane)) x) same
              ∙ (get_or-set_same s.lanes i (lane_after book op lane) no_lane (omega arith)
              ∙ (ap (lane_after book op) lane_is
              ∙ (lane_by-more book start ops i done (omega arith)
              ∙ (ap (λ d. lane_by book start ops i d) (sym (get_or-set_same t.performed i (done + 1) 0 (omega arith)))
              ∙ ap (λ x. lane_by book start ops x (performed_by (after_performing t i) x)) (sym same)))))
          | inr other ↦
              get_or-set_other s.lanes i j (lane_after book op lane) no_lane other
              ∙ (h.lanes j k ∙ ap (λ d. lane_by book start ops j d) (sym (get_or-set_other t.performed i j (done + 1) 0 other)))
        ];
        queues = λ j k. elim (cases_eq j i) [
          | inl same ↦
              ap (λ x. queue_at (set s.queues i rest) x) same
              ∙ (get_or-set_same s.queues i rest no_operations (omega arith)
              ∙ (rest_is
              ∙ (ap (λ d. backlog ops t.issued d) (sym (get_or-set_same t.performed i (done + 1) 0 (omega arith)))
              ∙ ap (λ x. backlog ops t.issued (performed_by (after_performing t i) x)) (sym same))))
          | inr other ↦
              get_or-set_other s.queues i j rest no_operations other
              ∙ (h.queues j k ∙ ap (λ d. backlog ops t.issued d) (sym (get_or-set_other t.performed i j (done + 1) 0 other)))
        ];
        journal =
            let entry_is : entry_of book start ops (i, done) ≡ record { channel = i; number = lane.answers; answer = answer_of book op lane } =
            ap (λ l. record { channel = i; number = done; answer = answer_of book op l }) (sym lane_is)
            ∙ ap (λ n. record { channel = i; number = n; answer = answer_of book op lane }) (sym (ap (λ l. l.answers) lane_is ∙ lane_by-answers book start ops i done inside (omega arith) h.fresh)) in
            take-noted s.journal.room (map (entry_of book start ops) t.journal) s.journal.entries (record { channel = i; number = lane.answers; answer = answer_of book op lane }) h.journal
            ∙ ap (λ e. take s.journal.room (map (entry_of book start ops) t.journal ++ e ∷ [])) (sym entry_is)
            ∙ ap (take s.journal.room) (sym (map_push (entry_of book start ops) t.journal (i, done)));
      }

  pub Holds-performed : Holds book start ops (after_turn ops t (Lane i)) (performed book s i)
  unfolding performed
  Holds-performed =
      elim (cases_lt (performed_by t i) t.issued) [
        | inl below ↦
            let queue_is = h.queues i inside ∙ backlog-first ops t.issued (performed_by t i) below sound.issued_in in
            subst (λ x. Holds book start ops x (performed_from book s i (queue_at s.queues i))) (sym (after_performing-is ops t i below))
            (subst (λ q. Holds book start ops (after_performing t i) (performed_from book s i q)) (sym queue_is) (busy (backlog ops t.issued (performed_by t i + 1)) below refl))
        | inr above ↦
            let queue_is = h.queues i inside ∙ backlog-none ops t.issued (performed_by t i) above sound.issued_in in
            subst (λ x. Holds book start ops x (performed_from book s i (queue_at s.queues i))) (sym (after_idle-is ops t i above))
            (subst (λ q. Holds book start ops t (performed_from book s i q)) (sym queue_is) h)
      ]

-- ---- a turn of control that issues
pub Holds-issued : (book : Book) (start : List LaneState) (ops : List MicroOp) (t : Standing) (s : ChannelState) (op : MicroOp) → t.issued < length ops → operation_at ops t.issued ≡ op → IsSound ops (length start) t → Holds book start ops t s → Holds book start ops (after_issue t) (record s { queues = map (λ queue. queue ++ op ∷ []) s.queues })
Holds-issued book start ops t s op below op_is sound h = record {
  fresh = h.fresh;
  turns = h.turns;
  lanes_count = h.lanes_count;
  queues_count = length-map s.queues (λ queue. queue ++ op ∷ []) ∙ h.queues_count;
  lanes = h.lanes;
  queues = λ i k.
      let count = h.queues_count in
      get_or-map (λ q. q ++ op ∷ []) s.queues i no_operations no_operations (omega arith)
      ∙ (ap (λ q. q ++ op ∷ []) (h.queues i k)
      ∙ (ap (λ o. backlog ops t.issued (performed_by t i) ++ o ∷ []) (sym op_is)
      ∙ sym (backlog-more ops t.issued (performed_by t i) (done-at ops (length start) t i sound k) below)));
  journal = h.journal;
}

-- ---- a longer list
map-agree : {X Y : Type 0} (f g : X → Y) (xs : List X) → All (λ x. f x ≡ g x) xs → map f xs ≡ map g xs
map-agree f g [] h = refl
map-agree f g (x ∷ xs) h =
    ap (λ y. y ∷ map f xs) (All-head (λ x. f x ≡ g x) x xs h)
    ∙ ap (λ ys. g x ∷ ys) (map-agree f g xs (All-tail (λ x. f x ≡ g x) x xs h))

entry-longer : (book : Book) (start : List LaneState) (ops : List MicroOp) (op : MicroOp) (e : ℕ × ℕ) → e.1 < length ops → entry_of book start (ops ++ op ∷ []) e ≡ entry_of book start ops e
entry-longer book start ops op e h =
    ap (λ front. record { channel = e.0; number = e.1; answer = answer_of book (operation_at (ops ++ op ∷ []) e.1) (lane_after_all book front (lane_at start e.0)) }) (take-longer ops op e.1 (omega arith))
    ∙ ap (λ o. record { channel = e.0; number = e.1; answer = answer_of book o (lane_by book start ops e.0 e.1) }) (get_or_append_left ops (op ∷ []) nothing e.1 h)

pub Holds-longer : (book : Book) (start : List LaneState) (ops : List MicroOp) (op : MicroOp) (t : Standing) (s : ChannelState) → IsSound ops (length start) t → Holds book start ops t s → Holds book start (ops ++ op ∷ []) t s
Holds-longer book start ops op t s sound h = record {
  fresh = h.fresh;
  turns = h.turns;
  lanes_count = h.lanes_count;
  queues_count = h.queues_count;
  lanes = λ i k.
      let done = done-at ops (length start) t i sound k in
      let fits = sound.issued_in in
      h.lanes i k ∙ ap (λ front. lane_after_all book front (lane_at start i)) (sym (take-longer ops op (performed_by t i) (omega arith)));
  queues = λ i k. h.queues i k ∙ ap (drop (performed_by t i)) (sym (take-longer ops op t.issued sound.issued_in));
  journal =
      let fits = sound.issued_in in
      let agree : All (λ e. entry_of book start ops e ≡ entry_of book start (ops ++ op ∷ []) e) t.journal =
      All-weaker (λ e. e.1 < t.issued) (λ e. entry_of book start ops e ≡ entry_of book start (ops ++ op ∷ []) e) (λ e below. sym (entry-longer book start ops op e (omega arith))) t.journal sound.journal_in in
      h.journal ∙ ap (take s.journal.room) (map-agree (entry_of book start ops) (entry_of book start (ops ++ op ∷ [])) t.journal agree);
}

-- ---- the meaning
pub Holds-lanes : (book : Book) (start : List LaneState) (ops : List MicroOp) (t : Standing) (s : ChannelState) → t.issued ≡ length ops → Holds book start ops t s → caught_up book s.lanes s.queues ≡ lanes_after_all book ops start
Holds-lanes book start ops t s all h =
    let lanes_count = h.lanes_count in
    let count = length-caught_up book s.lanes s.queues in
    ext_get_or no_lane (caught_up book s.lanes s.queues) (lanes_after_all book ops start) (count ∙ (h.lanes_count ∙ sym (length-map start (lane_after_all book ops))))
    (λ i k.
    let inside : i < length start = omega arith in
    let done = performed_by t i in
    caught_up-at book s.lanes s.queues i (omega arith)
    ∙ (ap (λ q. lane_after_all book q (lane_at s.lanes i)) (h.queues i inside ∙ ap (drop done) (take_all t.issued ops (omega arith)))
    ∙ (ap (lane_after_all book (drop done ops)) (h.lanes i inside)
    ∙ (sym (after_all-parts book (take done ops) (drop done ops) (lane_at start i))
    ∙ (ap (λ all. lane_after_all book all (lane_at start i)) (take-append-drop done ops)
    ∙ sym (get_or-map (lane_after_all book ops) start i no_lane no_lane inside))))))
