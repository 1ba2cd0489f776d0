-- The parts of an interval, a line more, and behind its last line.
use Rattle.std.proofs.Common.{◌≡◌, ℕ, ◌+◌, ◌-◌, ◌<◌, ◌≤◌, Bool, true, false, List, [], ◌∷◌, ◌++◌, Option, None, Some, refl, sym, subst, ◌∙◌, arith, inl, inr}
use Rattle.std.specs.Prelude.{◌⊎◌, slice_get, slice_index, nat_le}
use Rattle.std.proofs.lemmas.List.Folds.{list_any-append}
use borrow.Author.Tests.{leb-true, le-leb}
use Rattle.mid_lines.proofs.Conjunctions.{front_true, back_true, both_true}
use Rattle.back_liveness.specs.declared.step.Interval.{Interval}
use Rattle.back_liveness.specs.declared.step.Step.{Step}
use Rattle.back_liveness.specs.Settled.{is_marked}
use Rattle.back_liveness.specs.Liveness.{has_line, have_line}
use Rattle.back_liveness.specs.Parts.{run_with, parts_with, IsOfRun, InParts}
use Rattle.back_liveness.proofs.Forwards.{either, or_front}
use Rattle.back_liveness.proofs.Lists.{or_back, same_or_other}

pub has : (i : Interval) (x : ℕ) → i.from ≤ x → x ≤ i.to → has_line i x ≡ true
has i x low up = both_true (nat_le i.from x) _ (le-leb i.from x low) (le-leb x i.to up)

pub has_not : (i : Interval) (x : ℕ) → has_line i x ≡ true → (i.from ≤ x) × (x ≤ i.to)
has_not i x h = (leb-true i.from x (front_true (nat_le i.from x) _ h), leb-true x i.to (back_true (nat_le i.from x) _ h))

-- one part alone, and one more
pub one_has : (i : Interval) (x : ℕ) → i.from ≤ x → x ≤ i.to → have_line (i ∷ []) x ≡ true
one_has i x low up = or_front (has_line i x) _ (has i x low up)

pub one_has_not : (i : Interval) (x : ℕ) → have_line (i ∷ []) x ≡ true → (i.from ≤ x) × (x ≤ i.to)
one_has_not i x h = elim (either (has_line i x) false h) [ inl k ↦ has_not i x k | inr k ↦ absurd (cc k) ]

pub more_keeps : (parts : List Interval) (i : Interval) (x : ℕ) → have_line parts x ≡ true → have_line (parts ++ i ∷ []) x ≡ true
more_keeps parts i x h = list_any-append (λ j. has_line j x) parts (i ∷ []) ∙ or_front (have_line parts x) _ h

pub more_has : (parts : List Interval) (i : Interval) (x : ℕ) → i.from ≤ x → x ≤ i.to → have_line (parts ++ i ∷ []) x ≡ true
more_has parts i x low up = list_any-append (λ j. has_line j x) parts (i ∷ []) ∙ or_back (have_line parts x) _ (one_has i x low up)

pub more_one_of :
    (parts : List Interval) (i : Interval) (x : ℕ) → have_line (parts ++ i ∷ []) x ≡ true → (have_line parts x ≡ true) ⊎ ((i.from ≤ x) × (x ≤ i.to))
more_one_of parts i x h =
    elim (either (have_line parts x) _ (sym (list_any-append (λ j. has_line j x) parts (i ∷ [])) ∙ h)) [
      | inl k ↦ inl k
      | inr k ↦ inr (one_has_not i x k)
    ]

-- before the first line
pub no_parts :
    (steps : List Step) (latest : List ℕ) (v : ℕ) (marks : List Bool) (high from : ℕ) → InParts steps latest v marks high from from [] None 0
no_parts steps latest v marks high from = record {
  reached = λ h low below up m. absurd (omega (arith, low, below));
  marked = λ h x low up m before back below. absurd (omega (arith, low, before, below));
  written = λ k s e w low below. absurd (omega (arith, low, below));
  within = λ x h. absurd (cc h);
  begun = λ f h. absurd (cc h);
}

-- what was in a part or in the run is so with a line more, which was not
held_still :
    (parts : List Interval) (run : Option ℕ) (line x : ℕ) (held : Bool) → x < line → (have_line parts x ≡ true) ⊎ IsOfRun run x
    → (have_line (parts_with parts run line held) x ≡ true) ⊎ IsOfRun (run_with run line held) x
held_still parts None line x true below (inl h) = inl h
held_still parts (Some f) line x true below (inl h) = inl h
held_still parts None line x false below (inl h) = inl h
held_still parts (Some f) line x false below (inl h) = inl (more_keeps parts (record { from = f; to = line - 1 }) x h)
held_still parts None line x held below (inr h) = absurd h
held_still parts (Some f) line x true below (inr h) = inr h
held_still parts (Some f) line x false below (inr h) = inl (more_has parts (record { from = f; to = line - 1 }) x h (omega (arith, below)))

-- a line that is held is in the run
held_now :
    (parts : List Interval) (run : Option ℕ) (line : ℕ) (held : Bool) → ((f : ℕ) → run ≡ Some f → f < line) → held ≡ true
    → (have_line (parts_with parts run line held) line ≡ true) ⊎ IsOfRun (run_with run line held) line
held_now parts run line false begun h = absurd (cc h)
held_now parts None line true begun h = inr (omega arith)
held_now parts (Some f) line true begun h = inr (let low = begun f refl in omega (arith, low))

within_still :
    (from : ℕ) (parts : List Interval) (run : Option ℕ) (line x : ℕ) (held : Bool) → ((y : ℕ) → have_line parts y ≡ true → (from ≤ y) × (y < line))
    → ((f : ℕ) → run ≡ Some f → (from ≤ f) × (f < line)) → have_line (parts_with parts run line held) x ≡ true → (from ≤ x) × (x < line + 1)
within_still from parts run line x true within begun h = let k = within x h in (k.0, omega (arith, k.1))
within_still from parts None line x false within begun h = let k = within x h in (k.0, omega (arith, k.1))
within_still from parts (Some f) line x false within begun h =
    elim (more_one_of parts (record { from = f; to = line - 1 }) x h) [
      | inl old ↦ (let k = within x old in (k.0, omega (arith, k.1)))
      | inr new ↦ (let k = begun f refl in (omega (arith, k.0, new.0), omega (arith, new.1)))
    ]

begun_still :
    (from : ℕ) (run : Option ℕ) (line f : ℕ) (held : Bool) → from ≤ line → ((g : ℕ) → run ≡ Some g → (from ≤ g) × (g < line))
    → run_with run line held ≡ Some f → (from ≤ f) × (f < line + 1)
begun_still from run line f false low begun h = absurd (cc h)
begun_still from None line f true low begun h = let e : line ≡ f = cc h in (omega (arith, low, e), omega (arith, e))
begun_still from (Some g) line f true low begun h = let e : g ≡ f = cc h in let k = begun g refl in (omega (arith, k.0, e), omega (arith, k.1, e))

-- a line more
pub line_more :
    (steps : List Step) (latest : List ℕ) (v : ℕ) (marks : List Bool) (high from line : ℕ) (parts : List Interval) (run : Option ℕ) (reach next : ℕ) (held : Bool)
    → InParts steps latest v marks high from line parts run reach → from ≤ line → reach ≤ next
    → (line ≤ high → is_marked marks line ≡ true → slice_index latest line ≤ next) → (line ≤ next → held ≡ true)
    → ((k : ℕ) (s : Step) → slice_get steps k ≡ Some s → s.written ≡ Some v → k + 1 ≡ line → held ≡ true)
    → InParts steps latest v marks high from (line + 1) (parts_with parts run line held) (run_with run line held) next
line_more steps latest v marks high from line parts run reach next held i low kept now reaches writes = record {
  reached = λ h above below up m.
      elim (same_or_other h line) [
        | inl e ↦ subst (λ n. slice_index latest n ≤ next) (sym e) (now (omega (arith, e, up)) (subst (λ n. is_marked marks n ≡ true) e m))
        | inr ne ↦ (let k = i.reached h above (omega (arith, below, ne)) up m in omega (arith, k, kept))
      ];
  marked = λ h x above up m before back below.
      elim (same_or_other x line) [
        | inl e ↦
            subst (λ n. (have_line (parts_with parts run line held) n ≡ true) ⊎ IsOfRun (run_with run line held) n) (sym e)
            (held_now parts run line held (λ f g. (i.begun f g).1)
            (reaches
            (elim (same_or_other h line) [
              | inl q ↦ (let k = now (omega (arith, q, up)) (subst (λ n. is_marked marks n ≡ true) q m) in let b = subst (λ n. x ≤ slice_index latest n) q back in omega (arith, k, b, e))
              | inr ne ↦ (let k = i.reached h above (omega (arith, before, e, ne)) up m in omega (arith, k, kept, back, e))
            ])))
        | inr ne ↦ held_still parts run line x held (omega (arith, below, ne)) (i.marked h x above up m before back (omega (arith, below, ne)))
      ];
  written = λ k s e w above below.
      elim (same_or_other (k + 1) line) [
        | inl q ↦
            subst (λ n. (have_line (parts_with parts run line held) n ≡ true) ⊎ IsOfRun (run_with run line held) n) (sym q)
            (held_now parts run line held (λ f g. (i.begun f g).1) (writes k s e w q))
        | inr ne ↦ held_still parts run line (k + 1) held (omega (arith, below, ne)) (i.written k s e w above (omega (arith, below, ne)))
      ];
  within = λ x h. within_still from parts run line x held i.within i.begun h;
  begun = λ f h. begun_still from run line f held low i.begun h;
}

-- behind the last line the run is a part, or there is none
abbrev pub last_parts : List Interval → Option ℕ → (to : ℕ) → List Interval
last_parts parts None to = parts
last_parts parts (Some f) to = parts ++ record { from = f; to = to } ∷ []

pub in_last :
    (parts : List Interval) (run : Option ℕ) (to x : ℕ) → x ≤ to → (have_line parts x ≡ true) ⊎ IsOfRun run x → have_line (last_parts parts run to) x ≡ true
in_last parts None to x up (inl h) = h
in_last parts (Some f) to x up (inl h) = more_keeps parts (record { from = f; to = to }) x h
in_last parts None to x up (inr h) = absurd h
in_last parts (Some f) to x up (inr h) = more_has parts (record { from = f; to = to }) x h up

pub last_within :
    (from : ℕ) (parts : List Interval) (run : Option ℕ) (to x : ℕ) → ((y : ℕ) → have_line parts y ≡ true → (from ≤ y) × (y < to + 1))
    → ((f : ℕ) → run ≡ Some f → (from ≤ f) × (f < to + 1)) → have_line (last_parts parts run to) x ≡ true → (from ≤ x) × (x ≤ to)
last_within from parts None to x within begun h = let k = within x h in (k.0, omega (arith, k.1))
last_within from parts (Some f) to x within begun h =
    elim (more_one_of parts (record { from = f; to = to }) x h) [
      | inl old ↦ (let k = within x old in (k.0, omega (arith, k.1)))
      | inr new ↦ (let k = begun f refl in (omega (arith, k.0, new.0), new.1))
    ]
