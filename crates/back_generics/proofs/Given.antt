-- Arguments stay where they are given, as long as the stack stands where they are lent.
use Rattle.std.proofs.Common.{◌≡◌, inl, inr, ℕ, ◌+◌, ◌*◌, ◌≤◌, List, ◌∙◌, arith}
use Rattle.std.specs.Prelude.{slice_index_or}
use Rattle.lang_meaning.specs.Values.{Value, nil}
use Rattle.flat_language.specs.FlatState.{FlatState}
use Rattle.mid_code.specs.Arena.{Arena, stack_from, word_at}
use Rattle.mid_code.specs.State.{MidState}
use Rattle.back_relation.specs.Setting.{Setting}
use Rattle.back_relation.specs.Worlds.{World}
use Rattle.back_relation.specs.Ends.{WorldKept, Around}
use Rattle.back_relation.specs.Procedures.{ArgumentsLent, ArgumentsGiven}
use Rattle.back_relation.proofs.Activations.{kept_later}
use Rattle.back_relation.proofs.Then.{same_world, from_same}
use Rattle.back_relation.proofs.Worlds.{plain_later, deeper_same, value_stays}

module _ (setting : Setting) where
  -- where code goes on
  pub lent_then :
      {c : ℕ} {w w' : World} {z z' : FlatState} {y y' : MidState} {address : ℕ} {vs : List Value} → WorldKept setting w w' z z' y y' → Around setting c z z' y y' → ArgumentsLent setting w y.arena address vs
      → ArgumentsLent setting w' y'.arena address vs
  lent_then {address = address} {vs = vs} k a g = record {
    low = omega (arith, g.low, from_same setting k a);
    is_word = g.is_word;
    values = λ i few.
        let low = g.low in
        value_stays k.later (deeper_same (same_world setting k a)) (address + 4 * i) (slice_index_or vs i nil) (omega (arith, low)) (g.plain (4 * i) (omega (arith, few))) (g.values i few);
    plain = λ i few. plain_later (address + i) k.later (g.plain i few);
  }

  pub given_then :
      {c : ℕ} {w w' : World} {z z' : FlatState} {y y' : MidState} {address : ℕ} {vs : List Value} → WorldKept setting w w' z z' y y' → Around setting c z z' y y' → ArgumentsGiven setting w y.arena address vs
      → ArgumentsGiven setting w' y'.arena address vs
  given_then k a (inl g) = inl (lent_then k a g)
  given_then k a (inr kept) = inr (kept_later k.later kept)

  -- and where a frame was laid
  pub lent_inside :
      {w : World} {a a' : Arena} {address : ℕ} {vs : List Value} → ((x : ℕ) → word_at a' x ≡ word_at a x) → stack_from a' ≤ stack_from a → ArgumentsLent setting w a address vs
      → ArgumentsLent setting w a' address vs
  lent_inside {address = address} same from g = record {
    low = let low = g.low in omega (arith, low, from);
    is_word = g.is_word;
    values = λ i few. let at = g.values i few in record { word = at.word; of_value = at.of_value; stands = same (address + 4 * i) ∙ at.stands };
    plain = λ i few. g.plain i few;
  }

  pub given_inside :
      {w : World} {a a' : Arena} {address : ℕ} {vs : List Value} → ((x : ℕ) → word_at a' x ≡ word_at a x) → stack_from a' ≤ stack_from a → ArgumentsGiven setting w a address vs
      → ArgumentsGiven setting w a' address vs
  given_inside same from (inl g) = inl (lent_inside same from g)
  given_inside same from (inr kept) = inr kept
