-- A machine in the middle of a run: where it stands after i turns, and after one more.
use Rattle.std.proofs.Common.{◌≡◌, ℕ, ◌+◌, ◌<◌, ◌≤◌, List, [], ◌∷◌, ◌++◌, Some, None, refl, sym, ap, subst, ◌∙◌, arith, inl, inr, append_assoc, append-nil, add-zero, length-append}
use Rattle.std.specs.Prelude.{Option, IfSome, min}
use Rattle.rv_machine.specs.declared.ending.Ending.{Ending}
use Rattle.rv_machine.specs.declared.ending.Ending.TheVariants.{Halt, Unhandled, Full, Budget}
use Rattle.rv_machine.specs.State.{State, Counted, register}
use Rattle.rv_machine.specs.Step.{Result, next, environment_call, step_of}
use Rattle.rv_machine.specs.Run.{Moment, Ended, act, stop, ends, run_from, first, turn_of, Feeds, Outside, Gave, StandsAt, Tells, CutOff}
use Rattle.rv_machine.specs.Turn.{Turned, Walks, acted}
use Rattle.rv_machine.proofs.Runs.{after, run_from-more, run_from-turn, run_from-read_more, run_from-split}

gave-nothing : (told : Option (List ℕ)) (writes : ℕ) → IfSome told (λ after. Gave told writes [] after writes)
gave-nothing None writes = tt
gave-nothing (Some all) writes =
    record { before = all; was = refl; appended = sym (append-nil all); counted = sym (add-zero writes) }

pub at-some : (P : List ℕ → Type 0) (told : Option (List ℕ)) (x : List ℕ) → told ≡ Some x → IfSome told P → P x
at-some P None x e h = cc
at-some P (Some y) x e h = let same : y ≡ x = cc in subst P same h

gave-then :
    (told told' told'' : Option (List ℕ)) (writes writes' writes'' : ℕ) (xs ys : List ℕ)
    → IfSome told' (λ after. Gave told writes xs after writes') → IfSome told'' (λ after. Gave told' writes' ys after writes'')
    → IfSome told'' (λ after. Gave told writes (xs ++ ys) after writes'')
gave-then told told' None writes writes' writes'' xs ys g h = tt
gave-then told told' (Some all) writes writes' writes'' xs ys g h =
    let k : Gave told writes xs h.before writes' = at-some (λ x. Gave told writes xs x writes') told' h.before h.was g in
    record {
      before = k.before;
      was = k.was;
      appended = h.appended ∙ (ap (λ x. x ++ ys) k.appended ∙ append_assoc k.before xs ys);
      counted = let n = length-append xs ys in let a = k.counted in let b = h.counted in omega arith;
    }

stands-then :
    (m : Moment) (e : Ended) (input : List ℕ) (old mid new : Counted) (o o' o'' : Outside)
    → StandsAt m input old mid o o' → StandsAt e.at m.input mid new o' o'' → StandsAt (after m e).at input old new o o''
stands-then m e input old mid new o o' o'' g h = record {
  state = h.state;
  count = let a = g.count in let b = h.count in omega arith;
  left = λ tells. h.left (g.left tells);
  given = gave-then o.given o'.given o''.given o.writes o'.writes o''.writes m.printed e.at.printed g.given h.given;
}

-- Environment calls that end a run.

turned_ends :
    (r : Result) (ending : Ending) (old new : Counted) (o : Outside) (Same : Type 0) → Same
    → ((input : List ℕ) → acted r old input ≡ ends ending (first old.state input)) → (ending ≡ Budget → ⊥)
    → new.state ≡ old.state → new.count ≡ old.count + 1 → Turned r (Some ending) old new o o Same
turned_ends r ending old new o Same same is no_budget state count = record {
  tells = λ input fed. (ap (λ (e : Ended). e.ending) (is input), no_budget);
  stands = λ input fed.
      subst (λ (e : Ended). StandsAt e.at input old new o o) (sym (is input))
      (record { state = state; count = count; left = λ tells. tells; given = gave-nothing o.given o.writes });
  unwritten = λ input fed none. same;
}

counts :
    (old mid new : Counted) → mid ≡ old → old.count + 1 < 18446744073709551616
    → new.count ≡ min (mid.count + 1) 18446744073709551615 → new.count ≡ old.count + 1
counts old mid new unchanged room rises = let same = ap (λ (c : Counted). c.count) unchanged in omega arith

-- a call that ends a run, by what it says of the state
turned_call :
    (r : Result) (which : ℕ) (ending : Ending) (of : State → Ending) (old mid new : Counted) (o : Outside) (Same : Type 0) → Same
    → r ≡ environment_call which → ((input : List ℕ) → acted (environment_call which) old input ≡ ends (of old.state) (first old.state input))
    → (ending ≡ Budget → ⊥) → mid ≡ old → new.state ≡ mid.state → old.count + 1 < 18446744073709551616
    → new.count ≡ min (mid.count + 1) 18446744073709551615 → ending ≡ of new.state → Turned r (Some ending) old new o o Same
turned_call r which ending of old mid new o Same same e ends_so no_budget unchanged state room rises is =
    let here : new.state ≡ old.state = state ∙ ap (λ (c : Counted). c.state) unchanged in
    let value : ending ≡ of old.state = is ∙ ap of here in
    turned_ends r ending old new o Same same (λ input. rw (e, value) (ends_so input)) no_budget here (counts old mid new unchanged room rises)

pub turned_halt :
    (r : Result) (which code : ℕ) (old mid new : Counted) (o : Outside) (Same : Type 0) → Same → r ≡ environment_call which
    → which ≡ 0 → mid ≡ old → new.state ≡ mid.state → old.count + 1 < 18446744073709551616
    → new.count ≡ min (mid.count + 1) 18446744073709551615 → code ≡ register new.state 10
    → Turned r (Some (Halt code)) old new o o Same
turned_halt r which code old mid new o Same same e w unchanged state room rises is =
    turned_call r which (Halt code) (λ s. Halt (register s 10)) old mid new o Same same e (λ input. rw w refl) (λ b. cc) unchanged state room rises (ap Halt is)

pub turned_unhandled :
    (r : Result) (which class : ℕ) (old mid new : Counted) (o : Outside) (Same : Type 0) → Same → r ≡ environment_call which
    → which ≡ 3 → mid ≡ old → new.state ≡ mid.state → old.count + 1 < 18446744073709551616
    → new.count ≡ min (mid.count + 1) 18446744073709551615 → class ≡ register new.state 10
    → Turned r (Some (Unhandled class)) old new o o Same
turned_unhandled r which class old mid new o Same same e w unchanged state room rises is =
    turned_call r which (Unhandled class) (λ s. Unhandled (register s 10)) old mid new o Same same e (λ input. rw w refl) (λ b. cc) unchanged state room rises
    (ap Unhandled is)

pub turned_full :
    (r : Result) (which asked left : ℕ) (old mid new : Counted) (o : Outside) (Same : Type 0) → Same → r ≡ environment_call which
    → which ≡ 4 → mid ≡ old → new.state ≡ mid.state → old.count + 1 < 18446744073709551616
    → new.count ≡ min (mid.count + 1) 18446744073709551615 → asked ≡ register new.state 10
    → left ≡ register new.state 11 → Turned r (Some (Full asked left)) old new o o Same
turned_full r which asked left old mid new o Same same e w unchanged state room rises is is' =
    turned_call r which (Full asked left) (λ s. Full (register s 10) (register s 11)) old mid new o Same same e (λ input. rw w refl) (λ b. cc) unchanged state room rises
    (cc)

-- In the middle of a run.

-- after i turns the run goes on, and this is where machine, source and sink stand
pub record Passed (i : ℕ) (input : List ℕ) (old mid : Counted) (o o' : Outside) (Same : Type 0) : Type 0 where
  pub goes_on : (run_from i (first old.state input)).ending ≡ Budget
  pub stands : StandsAt (run_from i (first old.state input)).at input old mid o o'
  pub unwritten : (run_from i (first old.state input)).at.printed ≡ [] → Same

pub passed-begin : (input : List ℕ) (old : Counted) (o : Outside) (Same : Type 0) → Same → Passed 0 input old old o o Same
unfolding run_from
passed-begin input old o Same same = record {
  goes_on = refl;
  stands = record { state = refl; count = sym (add-zero old.count); left = λ tells. tells; given = gave-nothing o.given o.writes };
  unwritten = λ none. same;
}

-- what feeds a run feeds the shorter ones
pub feeds_shorter :
    (told : Option (List ℕ)) (input : List ℕ) (j n : ℕ) (m : Moment) → j ≤ n → Feeds told input (run_from n m)
    → Feeds told input (run_from j m)
feeds_shorter told input j n m le fed = elim fed [
  | inl tells ↦ inl tells
  | inr none ↦ inr (let more = (run_from-read_more j n m le).1 in omega arith)
]

-- the run of one turn more
passed-turn :
    (i : ℕ) (input : List ℕ) (old mid : Counted) (o o' : Outside) (Same : Type 0) → Passed i input old mid o o' Same
    → run_from (i + 1) (first old.state input)
    ≡ after (run_from i (first old.state input)).at (turn_of mid.state (run_from i (first old.state input)).at.input)
passed-turn i input old mid o o' Same p =
    run_from-turn i (first old.state input) p.goes_on
    ∙ ap (λ s. after (run_from i (first old.state input)).at (turn_of s (run_from i (first old.state input)).at.input)) (sym p.stands.state)

-- get-bytes before a turn, and in it
pub unread_parts :
    (i : ℕ) (input : List ℕ) (old mid : Counted) (o o' : Outside) (Same : Type 0) → Passed i input old mid o o' Same
    → (run_from (i + 1) (first old.state input)).at.gets ≡ 0
    → (turn_of mid.state (run_from i (first old.state input)).at.input).at.gets ≡ 0
unread_parts i input old mid o o' Same p none =
    let turned = ap (λ (e : Ended). e.at.gets) (passed-turn i input old mid o o' Same p) in omega arith

-- what feeds the run feeds its next turn
feeds_turn :
    (i : ℕ) (input : List ℕ) (old mid : Counted) (o o' : Outside) (Same : Type 0) → Passed i input old mid o o' Same
    → Feeds o.left input (run_from (i + 1) (first old.state input))
    → Feeds o'.left (run_from i (first old.state input)).at.input (turn_of mid.state (run_from i (first old.state input)).at.input)
feeds_turn i input old mid o o' Same p fed = elim fed [
  | inl tells ↦ inl (p.stands.left tells)
  | inr none ↦ inr (unread_parts i input old mid o o' Same p none)
]

append-none : (xs ys : List ℕ) → xs ++ ys ≡ [] → (xs ≡ []) × (ys ≡ [])
append-none [] ys e = (refl, e)
append-none (x ∷ xs) ys e = cc

-- where everything stands after one turn more
pub record OneTurnMore (told : Option Ending) (i : ℕ) (input : List ℕ) (old new : Counted) (o o' : Outside) (Same : Type 0) : Type 0 where
  pub tells : Tells told (run_from (i + 1) (first old.state input))
  pub stands : StandsAt (run_from (i + 1) (first old.state input)).at input old new o o'
  pub unwritten : (run_from (i + 1) (first old.state input)).at.printed ≡ [] → Same

tells-after : (told : Option Ending) (m : Moment) (e : Ended) → Tells told e → Tells told (after m e)
tells-after None m e t = t
tells-after (Some ending) m e t = t

pub one_more :
    (told : Option Ending) (i : ℕ) (input : List ℕ) (old mid new : Counted) (o o' o'' : Outside) (A B C : Type 0)
    → (A → B → C) → Passed i input old mid o o' A → Turned (step_of mid.state) told mid new o' o'' B
    → Feeds o.left input (run_from (i + 1) (first old.state input)) → OneTurnMore told i input old new o o'' C
one_more told i input old mid new o o' o'' A B C both p t fed =
    let m : Moment = (run_from i (first old.state input)).at in
    let e : Ended = turn_of mid.state m.input in
    let turned : run_from (i + 1) (first old.state input) ≡ after m e = passed-turn i input old mid o o' A p in
    let fed' : Feeds o'.left m.input e = feeds_turn i input old mid o o' A p fed in
    record {
      tells = subst (λ (x : Ended). Tells told x) (sym turned) (tells-after told m e (t.tells m.input fed'));
      stands = subst (λ (x : Ended). StandsAt x.at input old new o o'') (sym turned) (stands-then m e input old mid new o o' o'' p.stands (t.stands m.input fed'));
      unwritten = λ none.
          let parts = append-none m.printed e.at.printed (sym (ap (λ (x : Ended). x.at.printed) turned) ∙ none) in
          both (p.unwritten parts.0) (t.unwritten m.input fed' parts.1);
    }

-- Rows that were followed.

-- no instruction
pub walks-none : (s : State) → Walks 0 s s
unfolding run_from
walks-none s m e =
    subst (λ (x : State). stop m ≡ stop (record m { state = x; executed = m.executed + 0 })) e
    (ap (λ k. stop (record m { executed = k })) (sym (add-zero m.executed)))

-- one instruction more
pub walks-on :
    (k : ℕ) (s s' s'' : State) → Walks k s s' → step_of s' ≡ next s'' → Walks (k + 1) s s''
unfolding run_from
walks-on k s s' s'' walks steps m e =
    let there = walks m e in
    let m' : Moment = record m { state = s'; executed = m.executed + k } in
    run_from-split k 1 m (ap (λ (x : Ended). x.ending) there)
    ∙ (ap (λ (x : Ended). run_from 1 x.at) there
    ∙ (ap (λ r. act stop r m') steps ∙ ap (λ n. stop (record m { state = s''; executed = n })) (omega arith)))

pub walks-as : (k k' : ℕ) (s s' : State) → k ≡ k' → Walks k s s' → Walks k' s s'
walks-as k k' s s' same walks = subst (λ n. Walks n s s') same walks

-- a run that has passed goes on so
walked :
    (i k : ℕ) (input : List ℕ) (old mid mid' : Counted) (o o' : Outside) (Same : Type 0) → Passed i input old mid o o' Same
    → Walks k mid.state mid'.state
    → run_from (i + k) (first old.state input)
    ≡ stop (record (run_from i (first old.state input)).at {
      state = mid'.state;
      executed = (run_from i (first old.state input)).at.executed + k;
    })
walked i k input old mid mid' o o' Same p walks =
    run_from-split i k (first old.state input) p.goes_on ∙ walks (run_from i (first old.state input)).at (sym p.stands.state)

pub passed-walk :
    (i k : ℕ) (input : List ℕ) (old mid mid' : Counted) (o o' : Outside) (Same : Type 0) → Passed i input old mid o o' Same
    → Walks k mid.state mid'.state → mid'.count ≡ mid.count + k → Passed (i + k) input old mid' o o' Same
passed-walk i k input old mid mid' o o' Same p walks count =
    let there = walked i k input old mid mid' o o' Same p walks in
    let before = p.stands.count in
    record {
      goes_on = ap (λ (x : Ended). x.ending) there;
      stands = subst (λ (x : Ended). StandsAt x.at input old mid' o o') (sym there)
          (record { state = refl; count = omega arith; left = p.stands.left; given = p.stands.given });
      unwritten = λ none. p.unwritten (sym (ap (λ (x : Ended). x.at.printed) there) ∙ none);
    }

pub passed-on :
    (i k : ℕ) (input : List ℕ) (old mid mid' : Counted) (o o' : Outside) (Same : Type 0)
    → (Feeds o.left input (run_from i (first old.state input)) → Passed i input old mid o o' Same)
    → Walks k mid.state mid'.state → mid'.count ≡ mid.count + k → Feeds o.left input (run_from (i + k) (first old.state input))
    → Passed (i + k) input old mid' o o' Same
passed-on i k input old mid mid' o o' Same passed walks count fed =
    passed-walk i k input old mid mid' o o' Same
    (passed (feeds_shorter o.left input i (i + k) (first old.state input) (omega arith) fed)) walks count

-- the run goes on
pub passed-more :
    (i : ℕ) (input : List ℕ) (old mid new : Counted) (o o' o'' : Outside) (A B C : Type 0) → (A → B → C)
    → Passed i input old mid o o' A → Turned (step_of mid.state) None mid new o' o'' B
    → Feeds o.left input (run_from (i + 1) (first old.state input)) → Passed (i + 1) input old new o o'' C
passed-more i input old mid new o o' o'' A B C both p t fed =
    let more = one_more None i input old mid new o o' o'' A B C both p t fed in
    record { goes_on = more.tells; stands = more.stands; unwritten = more.unwritten }

-- the run has ended, so every longer run ends there
pub record Finished (n : ℕ) (input : List ℕ) (ending : Ending) (old new : Counted) (o o' : Outside) (Same : Type 0) : Type 0 where
  pub ending_is : ending ≡ (run_from n (first old.state input)).ending
  pub stands : StandsAt (run_from n (first old.state input)).at input old new o o'
  pub unwritten : (run_from n (first old.state input)).at.printed ≡ [] → Same

pub finished :
    (i n : ℕ) (input : List ℕ) (ending : Ending) (old mid new : Counted) (o o' o'' : Outside) (A B C : Type 0) → i < n
    → (A → B → C)
    → ((fed : Feeds o.left input (run_from i (first old.state input))) → Passed i input old mid o o' A)
    → Turned (step_of mid.state) (Some ending) mid new o' o'' B → Feeds o.left input (run_from n (first old.state input))
    → Finished n input ending old new o o'' C
finished i n input ending old mid new o o' o'' A B C below both passed t fed =
    let before = feeds_shorter o.left input i n (first old.state input) (omega arith) fed in
    let with_turn = feeds_shorter o.left input (i + 1) n (first old.state input) (omega arith) fed in
    let more = one_more (Some ending) i input old mid new o o' o'' A B C both (passed before) t with_turn in
    let same = run_from-more (i + 1) n (first old.state input) (omega arith) (λ goes_on. more.tells.1 (sym more.tells.0 ∙ goes_on)) in
    record {
      ending_is = sym (ap (λ (e : Ended). e.ending) same ∙ more.tells.0);
      stands = subst (λ (e : Ended). StandsAt e.at input old new o o'') (sym same) more.stands;
      unwritten = λ none. more.unwritten (sym (ap (λ (e : Ended). e.at.printed) same) ∙ none);
    }

-- nothing was read in a run that has not read
pub unread_before :
    (j n : ℕ) (m : Moment) → j ≤ n → (run_from n m).at.gets ≡ 0 → (run_from j m).at.gets ≡ 0
unread_before j n m le none = let more = (run_from-read_more j n m le).1 in omega arith

-- a run that goes on to the end of its instructions
pub finished_budget :
    (n : ℕ) (input : List ℕ) (old new : Counted) (o o' : Outside) (Same : Type 0) → Passed n input old new o o' Same
    → Finished n input Budget old new o o' Same
finished_budget n input old new o o' Same p = record { ending_is = sym p.goes_on; stands = p.stands; unwritten = p.unwritten }

-- a machine that has not changed since stands there still
stands-still :
    (m : Moment) (input : List ℕ) (old mid new : Counted) (o o' o'' : Outside) → new ≡ mid
    → ((all : List ℕ) → o'.left ≡ Some all → o''.left ≡ Some all) → o''.given ≡ o'.given → o''.writes ≡ o'.writes
    → StandsAt m input old mid o o' → StandsAt m input old new o o''
stands-still m input old mid new o o' o'' same left given writes s = record {
  state = rw same s.state;
  count = rw same s.count;
  left = λ tells. left m.input (s.left tells);
  given = rw (given, writes) s.given;
}

pub cut_off :
    (call i n : ℕ) (old mid new : Counted) (o o' o'' : Outside) (A : Type 0) (Other : Moment → Type 0) → i < n
    → mid.count ≡ old.count + i
    → ((input : List ℕ) → Feeds o.left input (run_from i (first old.state input)) → Passed i input old mid o o' A)
    → new ≡ mid → step_of mid.state ≡ environment_call call
    → ((all : List ℕ) → o'.left ≡ Some all → o''.left ≡ Some all) → o''.given ≡ o'.given → o''.writes ≡ o'.writes
    → ((input : List ℕ) → Feeds o.left input (run_from i (first old.state input)) → Other (run_from i (first old.state input)).at)
    → CutOff call n old new o o'' Other
cut_off call i n old mid new o o' o'' A Other below counted passed same before left given writes other = record {
  turns = i;
  below = below;
  count = rw same counted;
  before = rw same before;
  stands = λ input fed.
      let p = passed input fed in
      (p.goes_on, stands-still _ input old mid new o o' o'' same left given writes p.stands, other input fed);
}
