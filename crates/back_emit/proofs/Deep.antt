-- Ways with a deep one among them stay so with more around them.
use Rattle.std.proofs.Common.{◌≡◌, ℕ, ◌+◌, ◌<◌, Bool, true, false, List, ◌∷◌, ◌++◌, length, drop, get_or, refl, ap, ◌∙◌}
use Rattle.std.specs.Prelude.{◌||◌}
use Rattle.std.proofs.lemmas.List.Folds.{list_any-append}
use Rattle.mid_code.specs.declared.code.SwitchCase.{SwitchCase}
use Rattle.mid_code.specs.MidCode.{MidStep, code_of}
use Rattle.mid_code.specs.model.View.{codes_of}
use Rattle.back_emit.specs.declared.ways.FrameWay.{FrameWay}
use Rattle.back_emit.specs.TreeWays.{is_deep, has_deep, step_ways, code_ways, codes_ways}
use Rattle.back_emit.proofs.Walked.{rest_at}

-- where some are deep, all are
abbrev pub DeepStays : (some all : List FrameWay) → Type 0
DeepStays some all = has_deep some ≡ true → has_deep all ≡ true

pub either_front : (a b : Bool) → a ≡ true → (a || b) ≡ true
either_front true b e = refl
either_front false b e = absurd (cc e)

pub either_back : (a b : Bool) → b ≡ true → (a || b) ≡ true
either_back true b e = refl
either_back false b e = e

pub deep_front : (xs ys : List FrameWay) → has_deep xs ≡ true → has_deep (xs ++ ys) ≡ true
deep_front xs ys h = list_any-append is_deep xs ys ∙ either_front (has_deep xs) (has_deep ys) h

pub deep_back : (xs ys : List FrameWay) → has_deep ys ≡ true → has_deep (xs ++ ys) ≡ true
deep_back xs ys h = list_any-append is_deep xs ys ∙ either_back (has_deep xs) (has_deep ys) h

pub deep_tail : (x : FrameWay) (xs : List FrameWay) → has_deep xs ≡ true → has_deep (x ∷ xs) ≡ true
deep_tail x xs h = either_back (is_deep x) (has_deep xs) h

pub deep_head : (x : FrameWay) (xs : List FrameWay) → is_deep x ≡ true → has_deep (x ∷ xs) ≡ true
deep_head x xs h = either_front (is_deep x) (has_deep xs) h

-- one step, and one code of a switch, of those that are left
pub step_deep :
    (way : FrameWay) (code items : List MidStep) (i : ℕ) (s : MidStep) (all : List FrameWay) → items ≡ code → i < length items → s ≡ get_or items i s
    → DeepStays (code_ways way (code_of (drop i code))) all → DeepStays (step_ways way s) all
step_deep way code items i s all same lt e h deep =
    h (ap (λ l. has_deep (code_ways way (code_of l))) (rest_at code items i s same lt e) ∙ deep_front (step_ways way s) (code_ways way (code_of (drop (i + 1) code))) deep)

pub steps_deep :
    (way : FrameWay) (code items : List MidStep) (i : ℕ) (s : MidStep) (all : List FrameWay) → items ≡ code → i < length items → s ≡ get_or items i s
    → DeepStays (code_ways way (code_of (drop i code))) all → DeepStays (code_ways way (code_of (drop (i + 1) code))) all
steps_deep way code items i s all same lt e h deep =
    h (ap (λ l. has_deep (code_ways way (code_of l))) (rest_at code items i s same lt e) ∙ deep_back (step_ways way s) (code_ways way (code_of (drop (i + 1) code))) deep)

pub case_deep :
    (way : FrameWay) (codes items : List SwitchCase) (i : ℕ) (s : SwitchCase) (all : List FrameWay) → items ≡ codes → i < length items → s ≡ get_or items i s
    → DeepStays (codes_ways way (codes_of (drop i codes))) all → DeepStays (code_ways way (code_of s.code)) all
case_deep way codes items i s all same lt e h deep =
    h (ap (λ l. has_deep (codes_ways way (codes_of l))) (rest_at codes items i s same lt e)
    ∙ deep_front (code_ways way (code_of s.code)) (way ∷ codes_ways way (codes_of (drop (i + 1) codes))) deep)

pub cases_deep :
    (way : FrameWay) (codes items : List SwitchCase) (i : ℕ) (s : SwitchCase) (all : List FrameWay) → items ≡ codes → i < length items → s ≡ get_or items i s
    → DeepStays (codes_ways way (codes_of (drop i codes))) all → DeepStays (codes_ways way (codes_of (drop (i + 1) codes))) all
cases_deep way codes items i s all same lt e h deep =
    h (ap (λ l. has_deep (codes_ways way (codes_of l))) (rest_at codes items i s same lt e)
    ∙ deep_back (code_ways way (code_of s.code)) (way ∷ codes_ways way (codes_of (drop (i + 1) codes))) (deep_tail way (codes_ways way (codes_of (drop (i + 1) codes))) deep))
