-- Classes from one on up to another.
use Rattle.std.proofs.Common.{◌≡◌, ℕ, zero, suc, ◌+◌, ◌-◌, ◌<◌, ◌≤◌, List, [], ◌∷◌, ◌++◌, length, ◌∙◌, ap, subst, append_assoc, arith}
use Rattle.std.proofs.lemmas.List.{length-append, map-append}
use Rattle.std.specs.List.{range_with_len}
use Rattle.lang_meaning.specs.Values.{Value, object}
use Rattle.lang_meaning.specs.Objects.{input_stream, output_stream}
use Rattle.eval_store.specs.declared.store.Store.{Store}
use Rattle.eval_store.specs.declared.word.Word.{Word}
use Rattle.eval_store.specs.Words.{value_of_word, values_of}
use Rattle.lang_meaning.specs.Recipes.{Recipe, in_turn, single, class_recipe, classes_recipe}
use Rattle.eval_store.specs.Recipes.{IsMadeBy, IsMaking}
use Rattle.eval_store.specs.Tables.{first_values}
use Rattle.eval_store.proofs.Turns.{one_made, all_made}
use Rattle.eval_store.proofs.Made.{both_made, made_as}

pub range_first : (a b : ℕ) → a < b → range_with_len a (b - a) ≡ a ∷ range_with_len (a + 1) (b - (a + 1))
range_first a b h =
    let left : b - a ≡ suc (b - (a + 1)) = omega arith in
    ap (range_with_len a) left

range_done : (a b : ℕ) → b ≤ a → range_with_len a (b - a) ≡ []
range_done a b h =
    let left : b - a ≡ zero = omega arith in
    ap (range_with_len a) left

pub one_class : (class to : ℕ) {all : List ℕ} {old mid new : Store} {ws : List Word} {w : Word} → class < to
    → IsMaking value_of_word (λ names. class_recipe) old mid all (range_with_len class (to - class)) ws
    → IsMadeBy value_of_word (λ names. class_recipe class) mid new w
    → IsMaking value_of_word (λ names. class_recipe) old new all (range_with_len (class + 1) (to - (class + 1))) (ws ++ w ∷ [])
one_class class to {all} {old} {mid} {new} {ws} {w} h p q =
    one_made (subst (λ left. IsMaking value_of_word (λ names. class_recipe) old mid all left ws) (range_first class to h) p) q

pub all_classes : (class to : ℕ) {all : List ℕ} {old new : Store} {ws : List Word} → to ≤ class
    → IsMaking value_of_word (λ names. class_recipe) old new all (range_with_len class (to - class)) ws
    → IsMadeBy values_of (λ names. in_turn class_recipe all) old new ws
all_classes class to {all} {old} {new} {ws} h p =
    all_made (subst (λ left. IsMaking value_of_word (λ names. class_recipe) old new all left ws) (range_done class to h) p)

-- the classes, the streams behind those that are built in
pub first_made : (built_in classes : ℕ) {one two three four five : Store} {ws os : List Word} {i o : Word}
    → IsMadeBy values_of (λ names. in_turn class_recipe (range_with_len 0 built_in)) one two ws
    → IsMadeBy value_of_word (λ names. single input_stream) two three i
    → IsMadeBy value_of_word (λ names. single output_stream) three four o
    → IsMadeBy values_of (λ names. in_turn class_recipe (range_with_len built_in (classes - built_in))) four five os
    → IsMadeBy first_values (λ names. classes_recipe built_in classes) one five (record { classes = ws ++ os; input = i; output = o })
first_made built_in classes {one} {two} {three} {four} {five} {ws} {os} {i} {o} p q r s =
    made_as
    (record {
      objects = λ names n same.
          ap (λ k. ((first n).0 ++ input_stream ∷ [] ++ output_stream ∷ []) ++ (others k).0) (behind n)
          ∙ append_assoc ((first n).0 ++ input_stream ∷ []) (output_stream ∷ []) (others (n + length (first n).0 + 2)).0
          ∙ append_assoc (first n).0 (input_stream ∷ []) (output_stream ∷ (others (n + length (first n).0 + 2)).0);
      stands = λ names n same.
          ap (λ vs. (vs, value_of_word names i, value_of_word names o)) (map-append (value_of_word names) ws os)
          ∙ ap (λ (v : ((List Value × Value) × Value) × List Value). (v.0.0.0 ++ v.1, v.0.0.1, v.0.1)) same
          ∙ ap (λ k. ((first n).1 ++ (others k).1, object (n + length (first n).0), object (n + length ((first n).0 ++ input_stream ∷ [])))) (behind n)
          ∙ ap (λ k. ((first n).1 ++ (others (n + length (first n).0 + 2)).1, object (n + length (first n).0), object k)) (between n);
    })
    (both_made (both_made (both_made p q) r) s)
  where
    first : Recipe (List Value)
    first = in_turn class_recipe (range_with_len 0 built_in)

    others : Recipe (List Value)
    others = in_turn class_recipe (range_with_len built_in (classes - built_in))

    between : (n : ℕ) → n + length ((first n).0 ++ input_stream ∷ []) ≡ n + length (first n).0 + 1
    between n = omega (arith, length-append (first n).0 (input_stream ∷ []))

    behind : (n : ℕ) → n + length ((first n).0 ++ input_stream ∷ [] ++ output_stream ∷ []) ≡ n + length (first n).0 + 2
    behind n = omega (arith, length-append (first n).0 (input_stream ∷ []), length-append ((first n).0 ++ input_stream ∷ []) (output_stream ∷ []))
