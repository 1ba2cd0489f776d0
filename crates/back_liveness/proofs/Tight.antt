-- No interval is longer than it has to be: the first and the last lines of lives, and from where one comes to lines.
use Rattle.std.proofs.Common.{◌≡◌, ◌≢◌, ℕ, zero, suc, ◌+◌, ◌<◌, ◌≤◌, Bool, true, false, List, [], ◌∷◌, ◌++◌, length, get_or, set, Option, None, Some, refl, sym, ap, subst, ◌∙◌, arith, inl, inr, eq-eqb, get_or-set_other, get_or-set_same}
use Rattle.std.specs.Prelude.{◌⊎◌, ◌==◌, slice_get, slice_index}
use Rattle.std.specs.List.{list_any}
use Rattle.std.proofs.lemmas.List.{get_or_append_left, get_or_push}
use Rattle.std.proofs.lemmas.List.Folds.{list_any_at}
use Rattle.back_liveness.specs.declared.lives.Life.{Life}
use Rattle.back_liveness.specs.declared.step.Interval.{Interval}
use Rattle.back_liveness.specs.declared.step.Step.{Step}
use Rattle.back_liveness.specs.Liveness.{IsLive, by_read, behind, aside, IsEndOf, Goes, IsWanted, alive, behind_write, around, AreStructured, AreTight}
use Rattle.back_liveness.specs.Ahead.{is_written}
use Rattle.back_liveness.specs.Heads.{IsBetween, AreHeads, IsSource, AreSources, IsSameOr, IsCounterexample}
use Rattle.back_liveness.specs.Points.{IsPoint, reads, HasEndOr}
use Rattle.back_liveness.specs.Points as point
use Rattle.back_liveness.specs.Settled.{is_marked, AreAlive, IsMarkedBy, by_next, by_aside, IsTight}
use Rattle.back_liveness.specs.Settled as mark
use Rattle.back_liveness.proofs.Lists.{same_or_other}
use Rattle.back_liveness.proofs.Around.{below_or_not, there_below}
use Rattle.back_liveness.proofs.Covering.{count_more}

-- a number that is the same, or that of a line that goes there
source_more :
    (steps : List Step) (t line : ℕ) (old new : List ℕ) → IsSameOr old new t line (Goes steps line t) → IsSource steps t (slice_index old t)
    → IsSource steps t (slice_index new t)
source_more steps t line old new same known =
    elim same [
      | inl q ↦ subst (IsSource steps t) (sym q) known
      | inr added ↦ inr (subst (λ k. Goes steps k t) (sym added.0) added.1)
    ]

pub sources_more :
    (steps : List Step) (line : ℕ) (earliest earliest2 latest latest2 : List ℕ) → ((t : ℕ) → IsSameOr earliest earliest2 t line (Goes steps line t))
    → ((t : ℕ) → IsSameOr latest latest2 t line (Goes steps line t)) → AreSources steps earliest latest → AreSources steps earliest2 latest2
sources_more steps line earliest earliest2 latest latest2 first last known = record {
  first = λ t h. source_more steps t line earliest earliest2 (first t) (known.first t h);
  last = λ t h. source_more steps t line latest latest2 (last t) (known.last t h);
}

-- with one more of the lines to which a line goes
pub same_or_more :
    (initial old new : List ℕ) (t line : ℕ) (to : List ℕ) (at : ℕ) → at < length to → IsSameOr initial old t line (list_any (λ a. a == t) to ≡ true)
    → IsSameOr old new t line (slice_index to at ≡ t) → IsSameOr initial new t line (list_any (λ a. a == t) to ≡ true)
same_or_more initial old new t line to at there known same =
    elim same [
      | inl q ↦
          elim known [
            | inl was ↦ inl (q ∙ was)
            | inr added ↦ inr (q ∙ added.0, added.1)
          ]
      | inr added ↦ inr (added.0, list_any_at (λ a. a == t) to at 0 there (ap (λ a. a == t) added.1 ∙ eq-eqb t t refl))
    ]

-- ends that were there before, or are points
pub ends_on :
    (initial old new : List (Option Interval)) (v x : ℕ) (added : Type 0) → HasEndOr initial old v x added → HasEndOr old new v x added
    → HasEndOr initial new v x added
ends_on initial old new v x added known more h =
    elim (more h) [
      | inl was ↦ known was
      | inr a ↦ inr a
    ]

-- loops that do not lie one in another are no structured ones
pub structured_has_none :
    (steps : List Step) (earliest latest : List ℕ) → AreHeads steps earliest latest → AreSources steps earliest latest → AreStructured steps
    → IsCounterexample earliest latest → ⊥
structured_has_none steps earliest latest heads sources structured c =
    let low : c.head ≤ length steps = omega (arith, c.there, heads.latest_count) in
    let last = slice_index latest c.head in
    let goes_back : Goes steps last c.head = elim (sources.last c.head low) [
      | inl q ↦ absurd (omega (arith, q, c.behind, c.inside))
      | inr g ↦ g
    ] in
    let within = heads.within c.head in
    let to_low : c.to ≤ length steps = omega (arith, c.inside, within) in
    let own = heads.own c.to to_low in
    elim c.outside [
      | inl early ↦
          elim (sources.first c.to to_low) [
            | inl q ↦ absurd (omega (arith, q, early, c.behind))
            | inr g ↦ let s = structured c.head last (slice_index earliest c.to) c.to goes_back c.behind c.inside g in absurd (omega (arith, s.0, early))
          ]
      | inr late ↦
          elim (sources.last c.to to_low) [
            | inl q ↦ absurd (omega (arith, q, late, c.inside))
            | inr g ↦
                let s = structured c.head last (slice_index latest c.to) c.to goes_back c.behind c.inside g in
                elim s.1 [
                  | inl inside ↦ absurd (omega (arith, inside, late))
                  | inr beyond ↦ absurd (late_back steps latest earliest heads c.head beyond.0 low beyond.2 (omega (arith, late, beyond.1)))
                ]
          ]
    ]
  where
    late_back :
        (steps : List Step) (latest earliest : List ℕ) → AreHeads steps earliest latest → (head back : ℕ) → head ≤ length steps → Goes steps back head
        → slice_index latest head < back → ⊥
    late_back steps latest earliest heads head back low g late =
        let b = heads.sources back head g.step (there_below steps back g.step g.there) g.there g.goes low in omega (arith, b.1, late)

-- a point is wanted
pub point_wanted : (steps : List Step) (v x : ℕ) → IsPoint steps v x → IsWanted steps v x
point_wanted steps v x (reads line s e r) = alive line (by_read line s e r)
point_wanted steps v x (point.behind_write line s e w) = behind_write line s e w

not_written : (o : Option ℕ) (v : ℕ) → is_written o v ≡ false → o ≢ Some v
not_written None v h = λ q. absurd (cc q)
not_written (Some r) v h = λ q. absurd (cc (h, eq-eqb r v (some_same q)))
  where
    some_same : {a b : ℕ} → Some a ≡ Some b → a ≡ b
    some_same e = cc e

-- a line that is marked for a reason is one at which the register is alive
pub marked_alive :
    (steps : List Step) (v : ℕ) (marks : List Bool) (high line : ℕ) → AreAlive steps v marks high (line + 1) → IsMarkedBy steps v marks high line
    → IsLive steps v line
marked_alive steps v marks high line known (mark.by_read s e r) = by_read line s e r
marked_alive steps v marks high line known (by_next s below e f w m) =
    behind line s e f (not_written s.written v w) (known (line + 1) (omega arith) (omega (arith, below)) m)
marked_alive steps v marks high line known (by_aside t s far up e g m) = aside line t s e g (known t (omega (arith, far)) up m)

pub alive_more :
    (steps : List Step) (v : ℕ) (marks : List Bool) (high line : ℕ) (b : Bool) → line < length marks → AreAlive steps v marks high (line + 1)
    → (b ≡ true → IsMarkedBy steps v marks high line) → AreAlive steps v (set marks line b) high line
alive_more steps v marks high line b there known now k low up m =
    elim (same_or_other k line) [
      | inl q ↦
          subst (IsLive steps v) (sym q)
          (marked_alive steps v marks high line known (now (sym (get_or-set_same marks line b false there) ∙ subst (λ n. is_marked (set marks line b) n ≡ true) q m)))
      | inr ne ↦ known k (omega (arith, ne, low)) up (sym (get_or-set_other marks line k b false ne) ∙ m)
    ]

-- the ends of a life with a line more
pub tight_life :
    (steps : List Step) (earliest latest : List ℕ) (v : ℕ) (old new : Life) (line : ℕ) (b : Bool) → AreHeads steps earliest latest → AreSources steps earliest latest
    → line ≤ length steps → (b ≡ true → IsLive steps v line) → (b ≡ false → (new.from ≡ old.from) × (new.to ≡ old.to))
    → (new.from ≡ old.from) ⊎ (new.from ≡ line) → (new.to ≡ old.to) ⊎ (new.to ≡ slice_index latest line) → IsTight steps v old → IsTight steps v new
tight_life steps earliest latest v old new line b heads sources low live same from to known x end = by b refl
  where
    own : IsBetween earliest latest line line
    own = heads.own line low

    at_last : IsLive steps v line → IsWanted steps v (slice_index latest line)
    at_last l = elim (sources.last line low) [
      | inl q ↦ subst (IsWanted steps v) (sym q) (alive line l)
      | inr g ↦ around line (slice_index latest line) (slice_index latest line) l own.1 (omega arith) g
    ]

    from_wanted : IsLive steps v line → IsWanted steps v new.from
    from_wanted l = elim from [
      | inl q ↦ subst (IsWanted steps v) (sym q) (known old.from (inl refl))
      | inr q ↦ subst (IsWanted steps v) (sym q) (alive line l)
    ]

    to_wanted : IsLive steps v line → IsWanted steps v new.to
    to_wanted l = elim to [
      | inl q ↦ subst (IsWanted steps v) (sym q) (known old.to (inr refl))
      | inr q ↦ subst (IsWanted steps v) (sym q) (at_last l)
    ]

    by : (c : Bool) → b ≡ c → IsWanted steps v x
    by true e = elim end [
      | inl q ↦ subst (IsWanted steps v) (sym q) (from_wanted (live e))
      | inr q ↦ subst (IsWanted steps v) (sym q) (to_wanted (live e))
    ]
    by false e = elim end [
      | inl q ↦ known x (inl (q ∙ (same e).0))
      | inr q ↦ known x (inr (q ∙ (same e).1))
    ]

-- a register more, the next
no_end_there : (found : List (Option Interval)) (v x : ℕ) → length found ≤ v → IsEndOf (get_or found v None) x → ⊥
no_end_there [] v x h e = e
no_end_there (i ∷ found) zero x h e = absurd (omega (arith, h))
no_end_there (i ∷ found) (suc v) x h e = no_end_there found v x (omega (arith, h)) e

pub tight_more :
    (steps : List Step) (n : ℕ) (found : List (Option Interval)) (i : Option Interval) → length found ≡ n → AreTight steps found
    → ((x : ℕ) → IsEndOf i x → IsWanted steps n x) → AreTight steps (found ++ i ∷ [])
tight_more steps n found i count known tight v x end =
    elim (same_or_other v n) [
      | inl q ↦
          subst (λ u. IsWanted steps u x) (sym q)
          (tight x (subst (λ o. IsEndOf o x) (get_or_push found i None v (omega (arith, count, q))) end))
      | inr ne ↦
          elim (below_or_not v n) [
            | inl low ↦ known v x (subst (λ o. IsEndOf o x) (get_or_append_left found (i ∷ []) None v (omega (arith, count, low))) end)
            | inr high ↦ absurd (no_end_there (found ++ i ∷ []) v x (omega (arith, count_more found i n count, high, ne)) end)
          ]
    ]

-- one more of the registers that a line reads
pub ends_added :
    (initial old new : List (Option Interval)) (v x line : ℕ) (read : List ℕ) (at : ℕ) → at < length read
    → HasEndOr initial old v x ((list_any (λ r. r == v) read ≡ true) × (x ≡ line)) → HasEndOr old new v x ((slice_index read at ≡ v) × (x ≡ line))
    → HasEndOr initial new v x ((list_any (λ r. r == v) read ≡ true) × (x ≡ line))
ends_added initial old new v x line read at there known more h =
    elim (more h) [
      | inl was ↦ known was
      | inr a ↦ inr (list_any_at (λ r. r == v) read at 0 there (ap (λ r. r == v) a.0 ∙ eq-eqb v v refl), a.1)
    ]

-- the points of a line
pub line_ends :
    (steps : List Step) (line : ℕ) (s : Step) (old middle new : List (Option Interval)) (v x : ℕ) → slice_get steps line ≡ Some s
    → HasEndOr old middle v x ((list_any (λ r. r == v) s.reads ≡ true) × (x ≡ line)) → HasEndOr middle new v x ((s.written ≡ Some v) × (x ≡ line + 1))
    → HasEndOr old new v x (IsPoint steps v x)
line_ends steps line s old middle new v x there by_reads by_written h =
    elim (by_written h) [
      | inl was ↦
          elim (by_reads was) [
            | inl w ↦ inl w
            | inr a ↦ inr (subst (IsPoint steps v) (sym a.1) (reads line s there a.0))
          ]
      | inr a ↦ inr (subst (IsPoint steps v) (sym a.1) (point.behind_write line s there a.0))
    ]
