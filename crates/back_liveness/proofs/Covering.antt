-- Intervals of all registers.
use Rattle.std.proofs.Common.{◌≡◌, ℕ, zero, suc, ◌+◌, ◌<◌, ◌≤◌, Bool, true, false, List, [], ◌∷◌, ◌++◌, length, length-append, get_or, Option, None, Some, Result, Ok, Err, sym, subst, ◌∙◌, arith, inl, inr}
use Rattle.std.specs.Prelude.{slice_get, slice_index, nat_le, IfOk}
use Rattle.std.proofs.lemmas.List.{get_or_append_left, get_or_push}
use borrow.Author.Tests.{leb-true, le-leb}
use Rattle.back_liveness.specs.declared.barrier.Barrier.{Barrier}
use Rattle.back_liveness.specs.declared.intervals.LiveIntervals.{LiveIntervals}
use Rattle.back_liveness.specs.declared.lives.Life.{Life}
use Rattle.back_liveness.specs.declared.step.Interval.{Interval}
use Rattle.back_liveness.specs.declared.step.Step.{Step}
use Rattle.back_liveness.specs.Barriers.{Crosses, barrier_at, TellsLoop}
use Rattle.back_liveness.specs.Liveness.{is_read, IsLive, have_line, is_held, IsWithin, IsCovered, Covers}
use Rattle.back_liveness.specs.Ahead.{alive_ahead, alive_around}
use Rattle.back_liveness.specs.Heads.{AreHeads, AreNested}
use Rattle.back_liveness.specs.Points.{HasLoop, HaveLives, PartsOf, HaveParts, is_told, HaveCrossings}
use Rattle.back_liveness.specs.Settled.{Settled}
use Rattle.back_liveness.proofs.Forwards.{all_told}
use Rattle.back_liveness.proofs.Lists.{same_or_other}
use Rattle.back_liveness.proofs.Around.{below_or_not, there_below, around_found, goes_along, law_of_alive}

-- a register that is read nowhere is alive nowhere
pub none_alive :
    (steps : List Step) (earliest latest : List ℕ) (v : ℕ) → AreHeads steps earliest latest
    → ((k : ℕ) (x : Step) → slice_get steps k ≡ Some x → is_read x v ≡ true → ⊥) → (k : ℕ) → alive_ahead steps v k ≡ true → ⊥
none_alive steps earliest latest v heads none k h =
    let life : Life = record { need = 1; from = 0; to = 0; crossed = false } in
    let s : Settled steps earliest latest v [] 0 life 1 = record {
      reads = λ j x low up e r. absurd (omega (arith, low, up));
      behind = λ j x low up e f w m. absurd (omega (arith, low, up));
      aside = λ j t x low far up e a m. absurd (omega (arith, low, far, up));
      looked = λ j low up m. absurd (omega (arith, low, up));
    } in
    let told = all_told steps earliest latest v [] 0 1 life heads s (omega arith) (omega arith) (λ j x e r. absurd (none j x e r)) k h in
    omega (arith, told.0, told.1)

-- an interval with a loop has its lines
pub loop_there : (i : Option Interval) (line at last : ℕ) → HasLoop i line last → line ≤ at → at ≤ last → IsWithin i at
loop_there None line at last h low up = h
loop_there (Some i) line at last h low up = (omega (arith, h.0), omega (arith, h.1))

-- lines of parts, by the interval
part_there :
    (steps : List Step) (latest : List ℕ) (v : ℕ) (o : Option Interval) (parts : List Interval) (head line : ℕ) → PartsOf steps latest v o parts
    → HasLoop o head (slice_index latest head) → alive_ahead steps v head ≡ true → head ≤ line → line ≤ slice_index latest head → have_line parts line ≡ true
part_there steps latest v None parts head line are loop a before back = absurd loop
part_there steps latest v (Some i) parts head line are loop a before back = are.ahead head line a before back

part_written :
    (steps : List Step) (latest : List ℕ) (v : ℕ) (o : Option Interval) (parts : List Interval) (line : ℕ) (s : Step) → PartsOf steps latest v o parts
    → slice_get steps line ≡ Some s → s.written ≡ Some v → IsWithin o (line + 1) → have_line parts (line + 1) ≡ true
part_written steps latest v None parts line s are e w there = absurd there
part_written steps latest v (Some i) parts line s are e w there = are.written line s e w there

part_inside :
    (steps : List Step) (latest : List ℕ) (v : ℕ) (o : Option Interval) (parts : List Interval) (line : ℕ) → PartsOf steps latest v o parts
    → have_line parts line ≡ true → IsWithin o line
part_inside steps latest v None parts line are h = absurd (cc (h, are))
part_inside steps latest v (Some i) parts line are h = are.inside line h

no_part : (parts : List (List Interval)) (v line : ℕ) → length parts ≤ v → is_held parts v line ≡ true → ⊥
no_part [] v line h k = absurd (cc k)
no_part (x ∷ parts) zero line h k = absurd (omega (arith, h))
no_part (x ∷ parts) (suc v) line h k = no_part parts v line (omega (arith, h)) k

-- intervals that have the lives of registers cover lines
pub lives_cover :
    (steps : List Step) (barriers : List Barrier) (earliest latest : List ℕ) (found : List (Option Interval)) (parts : List (List Interval)) (crossed : List Bool)
    → AreHeads steps earliest latest → AreNested earliest latest → HaveLives steps latest (length found) found
    → length parts ≡ length found → HaveParts steps latest (length found) found parts
    → HaveCrossings steps barriers latest (length found) crossed → Covers steps barriers found parts crossed
lives_cover steps barriers earliest latest found parts crossed heads nested lives count own crossings = record {
  test = alive_around steps latest;
  along = goes_along steps earliest latest heads nested;
  within = λ v line h a.
      let i = around_found steps latest v line a in
      part_there steps latest v (get_or found v None) (get_or parts v []) i.head line (own v h) (lives.ahead v i.head h i.ahead) i.ahead i.before i.back;
  written = λ v line s h e w. part_written steps latest v (get_or found v None) (get_or parts v []) line s (own v h) e w (lives.written v line s h e w);
  inside = λ v line h.
      elim (below_or_not v (length found)) [
        | inl low ↦ part_inside steps latest v (get_or found v None) (get_or parts v []) line (own v low) h
        | inr beyond ↦ absurd (no_part parts v line (omega (arith, count, beyond)) h)
      ];
  crossings = λ v line h a c.
      let i = around_found steps latest v line a in
      crossings v i.head h i.ahead line i.before i.back c;
}

-- and so do intervals that have all lines
pub all_cover :
    (steps : List Step) (barriers : List Barrier) (found : List (Option Interval)) (parts : List (List Interval)) (crossed : List Bool)
    → ((v line : ℕ) → v < length found → line ≤ length steps → is_held parts v line ≡ true)
    → ((v line : ℕ) → is_held parts v line ≡ true → IsCovered found v line)
    → ((v line : ℕ) → v < length found → line ≤ length steps → Crosses (barrier_at barriers line) v → is_told crossed v ≡ true)
    → Covers steps barriers found parts crossed
all_cover steps barriers found parts crossed all inside told = record {
  test = λ v line. nat_le line (length steps);
  along = record {
    reads = λ v line s e r. le-leb line (length steps) (omega (arith, there_below steps line s e));
    behind = λ v line s e f w a. le-leb line (length steps) (omega (arith, there_below steps line s e));
    aside = λ v line to s e g a. le-leb line (length steps) (omega (arith, there_below steps line s e));
  };
  within = λ v line h a. all v line h (leb-true line (length steps) a);
  written = λ v line s h e w. all v (line + 1) h (omega (arith, there_below steps line s e));
  inside = inside;
  crossings = λ v line h a c. told v line h (leb-true line (length steps) a) c;
}

-- what is covered has all lines at which registers are alive
pub covers_alive :
    (steps : List Step) (barriers : List Barrier) (found : List (Option Interval)) (parts : List (List Interval)) (crossed : List Bool)
    → Covers steps barriers found parts crossed → (v line : ℕ) → v < length found → IsLive steps v line → IsCovered found v line
covers_alive steps barriers found parts crossed c v line h l = c.inside v line (c.within v line h (law_of_alive steps c.test c.along v line l))

pub if_all_alive :
    {E : Type 0} (steps : List Step) (barriers : List Barrier) (registers : ℕ) (r : Result LiveIntervals E) → IfOk r (λ found. length found.intervals ≡ registers)
    → IfOk r (λ found. Covers steps barriers found.intervals found.parts found.crossed)
    → IfOk r (λ found. (v line : ℕ) → v < registers → IsLive steps v line → IsCovered found.intervals v line)
if_all_alive steps barriers registers (Ok found) count covers = λ v line h l.
    covers_alive steps barriers found.intervals found.parts found.crossed covers v line (omega (arith, count, h)) l
if_all_alive steps barriers registers (Err e) count covers = tt

-- a list with an item more
pub count_more : {X : Type 0} (xs : List X) (x : X) (n : ℕ) → length xs ≡ n → length (xs ++ x ∷ []) ≡ n + 1
count_more xs x n h = length-append xs (x ∷ []) ∙ omega (arith, h)

-- a register more, the next, with its interval
pub lives_more :
    (steps : List Step) (latest : List ℕ) (n : ℕ) (found : List (Option Interval)) (i : Option Interval) → length found ≡ n
    → HaveLives steps latest n found → ((line : ℕ) → alive_ahead steps n line ≡ true → HasLoop i line (slice_index latest line))
    → ((line : ℕ) (s : Step) → slice_get steps line ≡ Some s → s.written ≡ Some n → IsWithin i (line + 1)) → HaveLives steps latest (n + 1) (found ++ i ∷ [])
lives_more steps latest n found i count lives ahead written = record {
  ahead = λ v line h a.
      elim (same_or_other v n) [
        | inl q ↦
            subst (λ o. HasLoop o line (slice_index latest line)) (sym (get_or_push found i None v (omega (arith, count, q))))
            (ahead line (subst (λ u. alive_ahead steps u line ≡ true) q a))
        | inr ne ↦
            subst (λ o. HasLoop o line (slice_index latest line)) (sym (get_or_append_left found (i ∷ []) None v (omega (arith, count, h, ne))))
            (lives.ahead v line (omega (arith, h, ne)) a)
      ];
  written = λ v line s h e w.
      elim (same_or_other v n) [
        | inl q ↦
            subst (λ o. IsWithin o (line + 1)) (sym (get_or_push found i None v (omega (arith, count, q))))
            (written line s e (subst (λ u. s.written ≡ Some u) q w))
        | inr ne ↦
            subst (λ o. IsWithin o (line + 1)) (sym (get_or_append_left found (i ∷ []) None v (omega (arith, count, h, ne))))
            (lives.written v line s (omega (arith, h, ne)) e w)
      ];
}

-- and with its parts
pub parts_more :
    (steps : List Step) (latest : List ℕ) (n : ℕ) (found : List (Option Interval)) (i : Option Interval) (parts : List (List Interval)) (own : List Interval)
    → length found ≡ n → length parts ≡ n → HaveParts steps latest n found parts → PartsOf steps latest n i own
    → HaveParts steps latest (n + 1) (found ++ i ∷ []) (parts ++ own ∷ [])
parts_more steps latest n found i parts own count count_parts have are v h =
    elim (same_or_other v n) [
      | inl q ↦
          subst (λ o. PartsOf steps latest v o (get_or (parts ++ own ∷ []) v [])) (sym (get_or_push found i None v (omega (arith, count, q))))
          (subst (λ ps. PartsOf steps latest v i ps) (sym (get_or_push parts own [] v (omega (arith, count_parts, q))))
          (subst (λ u. PartsOf steps latest u i own) (sym q) are))
      | inr ne ↦
          subst (λ o. PartsOf steps latest v o (get_or (parts ++ own ∷ []) v [])) (sym (get_or_append_left found (i ∷ []) None v (omega (arith, count, h, ne))))
          (subst (λ ps. PartsOf steps latest v (get_or found v None) ps) (sym (get_or_append_left parts (own ∷ []) [] v (omega (arith, count_parts, h, ne))))
          (have v (omega (arith, h, ne))))
    ]

-- and with whether it is crossed
pub crossings_more :
    (steps : List Step) (barriers : List Barrier) (latest : List ℕ) (n : ℕ) (crossed : List Bool) (b : Bool) → length crossed ≡ n
    → HaveCrossings steps barriers latest n crossed → ((line : ℕ) → alive_ahead steps n line ≡ true → TellsLoop barriers latest n line b)
    → HaveCrossings steps barriers latest (n + 1) (crossed ++ b ∷ [])
crossings_more steps barriers latest n crossed b count known told v line h a =
    elim (same_or_other v n) [
      | inl q ↦
          subst (TellsLoop barriers latest v line) (sym (get_or_push crossed b false v (omega (arith, count, q))))
          (subst (λ u. TellsLoop barriers latest u line b) (sym q) (told line (subst (λ u. alive_ahead steps u line ≡ true) q a)))
      | inr ne ↦
          subst (TellsLoop barriers latest v line) (sym (get_or_append_left crossed (b ∷ []) false v (omega (arith, count, h, ne))))
          (known v line (omega (arith, h, ne)) a)
    ]
