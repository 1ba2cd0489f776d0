-- The ways of code, one step more, and of the codes of a switch, one code more.
use Rattle.std.proofs.Common.{◌≡◌, ℕ, suc, ◌+◌, ◌<◌, List, [], ◌∷◌, ◌++◌, length, drop, get_or, sym, ap, ◌∙◌, append_assoc, drop-cons, add-one}
use Rattle.mid_code.specs.declared.code.SwitchCase.{SwitchCase}
use Rattle.mid_code.specs.MidCode.{MidStep, code_of}
use Rattle.mid_code.specs.model.View.{codes_of}
use Rattle.back_emit.specs.declared.ways.FrameWay.{FrameWay}
use Rattle.back_emit.specs.TreeWays.{step_ways, code_ways, codes_ways}

-- what is left of a list, from a place where something stands
pub rest_at : {X : Type 0} (list items : List X) (i : ℕ) (x : X) → items ≡ list → i < length items → x ≡ get_or items i x → drop i list ≡ x ∷ drop (i + 1) list
rest_at list items i x same lt e =
    ap (drop i) (sym same) ∙ drop-cons items i x lt ∙ ap (λ y. y ∷ drop (suc i) items) (sym e) ∙ ap (λ l. x ∷ drop (suc i) l) same ∙ ap (λ k. x ∷ drop k list) (sym (add-one i))

pub one_step_more :
    (ways new all : List FrameWay) (way : FrameWay) (code items : List MidStep) (i : ℕ) (s : MidStep) → items ≡ code → i < length items → s ≡ get_or items i s
    → new ≡ ways ++ step_ways way s → ways ++ code_ways way (code_of (drop i code)) ≡ all
    → new ++ code_ways way (code_of (drop (i + 1) code)) ≡ all
one_step_more ways new all way code items i s same lt e m h =
    let here = rest_at code items i s same lt e in
    ap (λ l. l ++ code_ways way (code_of (drop (i + 1) code))) m ∙ append_assoc ways (step_ways way s) (code_ways way (code_of (drop (i + 1) code)))
    ∙ ap (λ l. ways ++ code_ways way (code_of l)) (sym here) ∙ h

pub one_case_more :
    (ways middle new all : List FrameWay) (way : FrameWay) (codes items : List SwitchCase) (i : ℕ) (s : SwitchCase) → items ≡ codes → i < length items → s ≡ get_or items i s
    → middle ≡ ways ++ code_ways way (code_of s.code) → new ≡ middle ++ way ∷ [] → ways ++ codes_ways way (codes_of (drop i codes)) ≡ all
    → new ++ codes_ways way (codes_of (drop (i + 1) codes)) ≡ all
one_case_more ways middle new all way codes items i s same lt e m n h =
    let here = rest_at codes items i s same lt e in
    let rest = codes_ways way (codes_of (drop (i + 1) codes)) in
    ap (λ l. l ++ rest) n ∙ ap (λ l. (l ++ way ∷ []) ++ rest) m ∙ append_assoc (ways ++ code_ways way (code_of s.code)) (way ∷ []) rest
    ∙ append_assoc ways (code_ways way (code_of s.code)) (way ∷ rest)
    ∙ ap (λ l. ways ++ codes_ways way (codes_of l)) (sym here) ∙ h
