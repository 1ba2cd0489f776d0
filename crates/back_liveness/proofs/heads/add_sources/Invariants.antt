use Rattle.std.proofs.Common.{◌≡◌, true, ℕ, ◌<◌, ◌≤◌, length}
use Rattle.std.specs.Prelude.{◌==◌, slice_index}
use Rattle.std.specs.List.{list_any}
use Rattle.back_liveness.specs.Heads.{IsBetween, IsSameOr}
use Rattle.back_liveness.proofs.heads.add_sources.Given as goal

abbrev pub invariant-loop-to : goal.invariant-loop-to
invariant-loop-to l = record {
  kept : (k t : ℕ) → IsBetween l.initial.earliest l.initial.latest k t → IsBetween l.earliest l.latest k t;
  added : (j : ℕ) → j < l.to-index → slice_index l.aside j < length l.earliest → IsBetween l.earliest l.latest l.line (slice_index l.aside j);
  within :
      (n : ℕ) → l.line ≤ n → ((t : ℕ) → slice_index l.initial.latest t ≤ n) → (t : ℕ) → slice_index l.latest t ≤ n;
  first : (t : ℕ) → IsSameOr l.initial.earliest l.earliest t l.line (list_any (λ a. a == t) l.aside ≡ true);
  last : (t : ℕ) → IsSameOr l.initial.latest l.latest t l.line (list_any (λ a. a == t) l.aside ≡ true);
}
