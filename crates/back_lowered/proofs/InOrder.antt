-- The words of literals, one after another, and the word of a function by its name.
use Rattle.std.proofs.Common.{◌≡◌, ℕ, ◌+◌, ◌≤◌, List, [], ◌∷◌, ◌++◌, length, drop, true, false, Some, None, sym, ◌∙◌, ap, append_assoc, append-nil}
use Rattle.std.specs.Prelude.{slice_get, if◌then◌else◌}
use Rattle.std.specs.Str.{bytes_eq}
use Rattle.std.proofs.lemmas.List.{drop_all}
use Rattle.base.specs.model.DataRest.{rest_at}
use Rattle.lang_meaning.specs.declared.program.FunctionRow.{FunctionRow}
use Rattle.lang_meaning.specs.declared.program.LiteralRow.{LiteralRow}
use Rattle.lang_meaning.specs.Lookup.{text}
use Rattle.mid_start.specs.declared.static_data.StaticData.{StaticData}
use Rattle.mid_start.specs.StaticData.{word_of_text}
use Rattle.back_words.specs.Start.{laid_literal, literals_from}

module _ (names : List (List ℕ)) (functions : List FunctionRow) (laid : StaticData) (all : List LiteralRow) where
  -- the words so far, and those of the literals to come, are all
  pub literals_later : (k : ℕ) (l : LiteralRow) (so_far : List ℕ) → slice_get all k ≡ Some l
      → so_far ++ literals_from names functions laid (drop k all) k ≡ literals_from names functions laid all 0
      → (so_far ++ laid_literal names functions laid k l ∷ []) ++ literals_from names functions laid (drop (k + 1) all) (k + 1)
      ≡ literals_from names functions laid all 0
  literals_later k l so_far here before =
      append_assoc so_far (laid_literal names functions laid k l ∷ []) (literals_from names functions laid (drop (k + 1) all) (k + 1))
      ∙ ap (λ ws. so_far ++ ws) (sym (ap (λ ls. literals_from names functions laid ls k) (rest_at all k l here)))
      ∙ before

  pub literals_all : (k : ℕ) (so_far : List ℕ) → length all ≤ k
      → so_far ++ literals_from names functions laid (drop k all) k ≡ literals_from names functions laid all 0
      → so_far ≡ literals_from names functions laid all 0
  literals_all k so_far past before =
      sym (append-nil so_far) ∙ ap (λ ls. so_far ++ literals_from names functions laid ls k) (sym (drop_all k all past)) ∙ before

module _ (names : List (List ℕ)) (functions : List FunctionRow) (words : List ℕ) (name : List ℕ) where
  -- a function's row and its word are next
  next_one : (k : ℕ) (f : FunctionRow) (w : ℕ) → slice_get functions k ≡ Some f → slice_get words k ≡ Some w
      → word_of_text names (drop k functions) (drop k words) name
      ≡ (if bytes_eq name (text names f.name.0) then Some w else word_of_text names (drop (k + 1) functions) (drop (k + 1) words) name)
  next_one k f w row word =
      ap (λ fs. word_of_text names fs (drop k words) name) (rest_at functions k f row)
      ∙ ap (λ ws. word_of_text names (f ∷ drop (k + 1) functions) ws name) (rest_at words k w word)

  pub function_here : (k : ℕ) (f : FunctionRow) (w : ℕ) → slice_get functions k ≡ Some f → slice_get words k ≡ Some w
      → bytes_eq name (text names f.name.0) ≡ true
      → word_of_text names functions words name ≡ word_of_text names (drop k functions) (drop k words) name
      → Some w ≡ word_of_text names functions words name
  function_here k f w row word same before =
      sym (before ∙ next_one k f w row word
      ∙ ap (λ b. if b then Some w else word_of_text names (drop (k + 1) functions) (drop (k + 1) words) name) same)

  pub function_later : (k : ℕ) (f : FunctionRow) (w : ℕ) → slice_get functions k ≡ Some f → slice_get words k ≡ Some w
      → bytes_eq name (text names f.name.0) ≡ false
      → word_of_text names functions words name ≡ word_of_text names (drop k functions) (drop k words) name
      → word_of_text names functions words name ≡ word_of_text names (drop (k + 1) functions) (drop (k + 1) words) name
  function_later k f w row word other before =
      before ∙ next_one k f w row word
      ∙ ap (λ b. if b then Some w else word_of_text names (drop (k + 1) functions) (drop (k + 1) words) name) other

  -- there is none where words or functions are no more
  pub no_word : (k : ℕ) (f : FunctionRow) → slice_get functions k ≡ Some f → length words ≤ k
      → word_of_text names functions words name ≡ word_of_text names (drop k functions) (drop k words) name
      → None ≡ word_of_text names functions words name
  no_word k f row past before =
      sym (before ∙ ap (λ fs. word_of_text names fs (drop k words) name) (rest_at functions k f row)
      ∙ ap (λ ws. word_of_text names (f ∷ drop (k + 1) functions) ws name) (drop_all k words past))

  pub no_function : (k : ℕ) → length functions ≤ k
      → word_of_text names functions words name ≡ word_of_text names (drop k functions) (drop k words) name
      → None ≡ word_of_text names functions words name
  no_function k past before = sym (before ∙ ap (λ fs. word_of_text names fs (drop k words) name) (drop_all k functions past))
