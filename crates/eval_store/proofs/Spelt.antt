-- What a search of the table of names finds: the empty text, and that of `t`.
use Rattle.std.proofs.Common.{◌≡◌, ◌≢◌, ℕ, ◌+◌, ◌<◌, ◌≤◌, ◌==◌, false, List, [], ◌∷◌, length, Some, None, sym, ◌∙◌, ap, subst, ⊎_elim, arith}
use Rattle.std.specs.Str.{bytes_eq}
use Rattle.std.proofs.lemmas.Bool.{cases_lt, false_from_ne_true}
use Rattle.std.proofs.lemmas.Bool.Decides.{same_from_decides}
use Rattle.std.proofs.lemmas.List.{get_or_past}
use Rattle.std.proofs.lemmas.Option.{slice_get-get_or}
use Rattle.std.proofs.lemmas.Slice.Eq.{bytes_eq-Decides}
use Rattle.base.specs.Names.{IsTable}
use Rattle.lang_meaning.specs.Lookup.{text}
use Rattle.eval_store.specs.declared.spellings.Spellings.{Spellings}
use Rattle.eval_store.specs.Spelling.{number_of, IsSpelling, IsBlankBelow, IsTruth}
use Rattle.eval_store.specs.bridge.Told.{inside, told}

-- one more name is passed, and it has the empty text or not
pub one_blank : (names : List (List ℕ)) (i : ℕ) → IsTable names → i < length names → text names i ≡ []
    → (n : ℕ) → n < i + 1 → text names n ≡ [] → n ≡ i
one_blank names i x h e n below empty =
    x.once n i [] (slice_get-get_or names n [] (omega arith) ∙ ap Some empty) (slice_get-get_or names i [] h ∙ ap Some e)

pub none_yet : (names : List (List ℕ)) (n : ℕ) → n ≡ length names → IsBlankBelow names 0 n
none_yet names n e = record { blank = get_or_past names n [] (omega (arith, e)); only = λ m below empty. absurd (omega arith) }

pub blank_there : (names : List (List ℕ)) (i : ℕ) → IsTable names → i < length names → text names i ≡ [] → IsBlankBelow names (i + 1) i
blank_there names i x h e = record { blank = e; only = one_blank names i x h e }

pub blank_elsewhere : (names : List (List ℕ)) (i blank : ℕ) → IsBlankBelow names i blank → (text names i ≡ [] → ⊥) → IsBlankBelow names (i + 1) blank
blank_elsewhere names i blank x f = record {
  blank = x.blank;
  only = λ n below empty. ⊎_elim (λ (h : n < i). x.only n h empty) (λ (h : i ≤ n). let same : n ≡ i = omega arith in absurd (f (ap (text names) (sym same) ∙ empty))) (cases_lt n i);
}

pub found_blank : (names : List (List ℕ)) (s : Spellings) (n : ℕ) → IsTable names → n ≡ length names → s.known ≡ n → IsBlankBelow names n s.blank → IsTruth names (length names) s.truth → IsSpelling names s
found_blank names s n x len known below truth = record {
  table = x;
  known = known ∙ len;
  blank = below.blank;
  only = λ m h e. below.only m (omega arith) e;
  truth = truth;
}

-- the text of t

pub truth_told : (names : List (List ℕ)) (s : Spellings) (name truth : ℕ) → s.truth ≡ Some truth → IsSpelling names s
    → (number_of s name == truth) ≡ bytes_eq (text names name) (116 ∷ [])
truth_told names s name truth e x =
    let there : IsTruth names (length names) (Some truth) = subst (IsTruth names (length names)) e x.truth in
    let known : number_of s truth ≡ truth = inside names s truth x there.0 in
    ap (λ n. number_of s name == n) (sym known) ∙ told names s name truth x ∙ ap (bytes_eq (text names name)) there.1

pub no_truth_told : (names : List (List ℕ)) (s : Spellings) (name : ℕ) → s.truth ≡ None → IsSpelling names s
    → false ≡ bytes_eq (text names name) (116 ∷ [])
no_truth_told names s name e x =
    let nowhere : IsTruth names (length names) None = subst (IsTruth names (length names)) e x.truth in
    let never : text names name ≢ 116 ∷ [] = ⊎_elim (λ (h : name < length names). nowhere name h) (λ (h : length names ≤ name) g. absurd (cc (get_or_past names name [] h, g))) (cases_lt name (length names)) in
    sym (false_from_ne_true (bytes_eq (text names name) (116 ∷ [])) (λ h. never ((bytes_eq-Decides (text names name) (116 ∷ [])).0 h)))

-- texts are told apart from either side
pub turned : (a b : List ℕ) → bytes_eq a b ≡ bytes_eq b a
turned a b =
    same_from_decides {P = a ≡ b} (bytes_eq a b) (bytes_eq b a) (bytes_eq-Decides a b)
    (λ h. sym ((bytes_eq-Decides b a).0 h), λ e. (bytes_eq-Decides b a).1 (sym e))

-- the table is searched for the text of t
pub truth_there : (names : List (List ℕ)) (i : ℕ) → i < length names → text names i ≡ 116 ∷ [] → IsTruth names (length names) (Some i)
truth_there names i h e = (h, e)

pub no_truth_before : (names : List (List ℕ)) (i : ℕ) → IsTruth names i None → text names i ≢ 116 ∷ [] → IsTruth names (i + 1) None
no_truth_before names i f g n h = ⊎_elim (λ (k : n < i). f n k) (λ (k : i ≤ n). let same : n ≡ i = omega arith in λ e. g (ap (text names) (sym same) ∙ e)) (cases_lt n i)

pub no_truth_yet : (names : List (List ℕ)) → IsTruth names 0 None
no_truth_yet names n h = absurd (omega arith)
