-- Lists of operands are made from their end.
use Rattle.std.proofs.Common.{◌≡◌, ℕ, ◌+◌, ◌-◌, ◌<◌, ◌≤◌, length, List, [], ◌∷◌, ◌++◌, Option, Some, ap, sym, ◌∙◌, take, drop, arith}
use Rattle.std.specs.Prelude.{slice_get}
use Rattle.std.proofs.lemmas.List.{take-append-drop, drop-drop, drop_all, map-append}
use Rattle.base.specs.model.DataRest.{rest_at}
use Rattle.lang_meaning.specs.Values.{Value}
use Rattle.lang_meaning.specs.Objects.{cons}
use Rattle.lang_meaning.specs.State.{Limit, full}
use Rattle.flat_language.specs.FlatState.{FlatState, go_on}
use Rattle.eval_machine.specs.Applications.{listed, made}
use Rattle.eval_store.specs.declared.word.Word.{Word}
use Rattle.eval_store.specs.declared.word.Word.TheVariants.{Nil}
use Rattle.eval_store.specs.Words.{value_of_word, values_of}
use Rattle.eval_store.specs.View.{limit_of}
use Rattle.eval_state.specs.declared.machine.Machine.{Machine}
use Rattle.eval_state.specs.Frames.{last_of}
use Rattle.eval_state.specs.View.{top, state}
use Rattle.eval_state.specs.Doing.{Gives, Fills, GivesWord}
use Rattle.eval_state.proofs.Doing.{alike, given_then, nothing_done}

-- the last ones, and one more
pub last_more : {X : Type 0} (xs : List X) (n : ℕ) (x : X) → n < length xs → slice_get xs (length xs - 1 - n) ≡ Some x → last_of (n + 1) xs ≡ x ∷ last_of n xs
last_more xs n x h e =
    let a : length xs - (n + 1) ≡ length xs - 1 - n = omega arith in
    let b : length xs - 1 - n + 1 ≡ length xs - n = omega arith in
    ap (λ k. drop k xs) a ∙ rest_at xs (length xs - 1 - n) x e ∙ ap (λ k. x ∷ drop k xs) b

-- the last ones of the last ones
pub last_last : {X : Type 0} (xs : List X) (n m : ℕ) → m ≤ n → n ≤ length xs → last_of n xs ≡ take (n - m) (last_of n xs) ++ last_of m xs
last_last xs n m h k =
    let e : length xs - n + (n - m) ≡ length xs - m = omega arith in
    sym (take-append-drop (n - m) (last_of n xs)) ∙ ap (λ ys. take (n - m) (last_of n xs) ++ ys) (drop-drop (n - m) (length xs - n) xs ∙ ap (λ j. drop j xs) e)

-- where words are wanting for the end, they are for the whole list
pub listed_full : (limit : Limit) (us vs : List Value) (z y : FlatState) (asked left : ℕ) → listed limit vs z ≡ record { outcome = full asked left; state = y }
    → listed limit (us ++ vs) z ≡ record { outcome = full asked left; state = y }
listed_full limit [] vs z y asked left h = h
listed_full limit (u ∷ us) vs z y asked left h =
    ap (λ r. go_on r (λ tail after. made limit 2 0 (cons u tail) after)) (listed_full limit us vs z y asked left h)

pub one_listed : (old now new : Machine) (n i : ℕ) (x tail : Word) (r : Option Word) → n < length old.operands.items → i ≡ length old.operands.items - 1 - n
    → slice_get now.operands.items i ≡ Some x
    → Gives old now (λ names z. listed (limit_of old.given.limit) (top names old n) z) tail
    → GivesWord now new (λ names z. made (limit_of now.given.limit) 2 0 (cons (value_of_word names x) (value_of_word names tail)) z) r
    → GivesWord old new (λ names z. listed (limit_of old.given.limit) (top names old (n + 1)) z) r
one_listed old now new n i x tail r h j e a d =
    let there : slice_get old.operands.items (length old.operands.items - 1 - n) ≡ Some x =
    ap (slice_get old.operands.items) (sym j) ∙ sym (ap (λ (m : Machine). slice_get m.operands.items i) a.same) ∙ e in
    alike old new _ _ r (λ names z. ap (λ ws. listed (limit_of old.given.limit) (values_of names ws) z) (sym (last_more old.operands.items n x h there)))
    (given_then old now new (λ names z. listed (limit_of old.given.limit) (top names old n) z) tail (λ names v y. made (limit_of old.given.limit) 2 0 (cons (value_of_word names x) v) y) r a
    (alike now new _ _ r (λ names z. ap (λ (m : Machine). made (limit_of m.given.limit) 2 0 (cons (value_of_word names x) (value_of_word names tail)) z) a.same) d))

-- what is wanting for the last ones
pub list_filled : (old new : Machine) (n m : ℕ) → m ≤ n → n ≤ length old.operands.items → Fills old new (λ names z. listed (limit_of old.given.limit) (top names old m) z)
    → Fills old new (λ names z. listed (limit_of old.given.limit) (top names old n) z)
list_filled old new n m h k d = record {
  asked = d.asked;
  left = d.left;
  same = d.same;
  state_is = λ names b.
      ap (λ vs. listed (limit_of old.given.limit) vs (state names old b)) (ap (values_of names) (last_last old.operands.items n m h k) ∙ map-append (value_of_word names) (take (n - m) (last_of n old.operands.items)) (last_of m old.operands.items))
      ∙ listed_full (limit_of old.given.limit) (values_of names (take (n - m) (last_of n old.operands.items))) (top names old m) (state names old b) (state names new b) d.asked d.left (d.state_is names b);
}

-- nothing is listed yet
pub none_listed : (m : Machine) → Gives m m (λ names z. listed (limit_of m.given.limit) (top names m 0) z) Nil
none_listed m =
    let e : last_of 0 m.operands.items ≡ [] = drop_all (length m.operands.items - 0) m.operands.items (omega arith) in
    alike m m _ _ (Some Nil) (λ names z. ap (λ ws. listed (limit_of m.given.limit) (values_of names ws) z) (sym e)) (nothing_done m Nil)
