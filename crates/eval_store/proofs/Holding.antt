-- A table of values as a list of texts and values.
use Rattle.std.proofs.Common.{◌≡◌, ℕ, ◌<◌, ◌==◌, Bool, true, false, List, [], ◌∷◌, length, Option, Some, refl, sym, ◌∙◌, ap}
use Rattle.std.specs.Prelude.{if◌then◌else◌}
use Rattle.std.specs.Vec.{with_item}
use Rattle.std.specs.Str.{bytes_eq}
use Rattle.lang_meaning.specs.Values.{Value}
use Rattle.lang_meaning.specs.Lookup.{text, under_text}
use Rattle.eval_store.specs.declared.word.Word.{Word}
use Rattle.eval_store.specs.declared.named_values.NamedValues.{NamedValues}
use Rattle.eval_store.specs.Words.{value_of_word, value_or_none}
use Rattle.eval_store.specs.Spelling.{number_of, IsSpelling}
use Rattle.eval_store.specs.NamedValues.{word_of, Holds, IsAlike}
use Rattle.eval_store.specs.bridge.Told.{told}
use Rattle.eval_store.specs.bridge.Places.{looked_up}

pub nothing_held : (names : List (List ℕ)) (t : NamedValues) → IsSpelling names t.spellings → t.values.items ≡ [] → Holds names t []
nothing_held names t x e = record { spelling = x; found = λ n. rw e refl }

pub held_alike : (names : List (List ℕ)) (t u : NamedValues) (pairs : List (List ℕ × Value)) → IsAlike t u → Holds names t pairs → Holds names u pairs
held_alike names t u pairs a h = record {
  spelling = rw a.spellings h.spelling;
  found = λ n. h.found n ∙ ap (value_or_none names) (sym (a.values (number_of t.spellings n)) ∙ rw a.spellings refl);
}

pub held_set : (names : List (List ℕ)) (t u : NamedValues) (pairs : List (List ℕ × Value)) (name number : ℕ) (w : Word) → IsAlike t u → Holds names t pairs
    → number ≡ number_of t.spellings name → number < length u.values.items
    → Holds names (record u { values = with_item u.values number (Some w) }) ((text names name, value_of_word names w) ∷ pairs)
held_set names t u pairs name number w a h is inside = record {
  spelling = rw a.spellings h.spelling;
  found = λ n.
      let test : (number_of u.spellings n == number_of u.spellings name) ≡ bytes_eq (text names n) (text names name) = rw a.spellings (told names t.spellings n name h.spelling) in
      let here : number ≡ number_of u.spellings name = is ∙ rw a.spellings refl in
      let after : under_text (text names n) pairs ≡ value_or_none names (word_of u n) = (held_alike names t u pairs a h).found n in
      rw (looked_up u.values.items number (number_of u.spellings n) w inside, here, test, after) (split names n (bytes_eq (text names n) (text names name)) (word_of u n) w);
}
  where
    split : (names : List (List ℕ)) (n : ℕ) (b : Bool) (o : Option Word) (w : Word)
        → (if b then Some (value_of_word names w) else value_or_none names o) ≡ value_or_none names (if b then Some w else o)
    split names n true o w = refl
    split names n false o w = refl
