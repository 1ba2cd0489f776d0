-- One word more.
use Rattle.std.proofs.Common.{◌≡◌, ℕ, suc, List, [], ◌∷◌, ◌++◌, length, map, take, Some, sym, ap, ap₂, subst, ◌∙◌, arith, rules, length-append, Bor}
use Rattle.std.specs.Prelude.{slice_get}
use Rattle.std.proofs.Math.Seq.{take-suc}
use Rattle.std.proofs.lemmas.List.{map-append}
use Rattle.std.proofs.lemmas.Option.{slice_get_within, get_or_from_slice_get}
use Rattle.top_command.proofs.command.texts_of.Goals as goal

more : (words : List (List ℕ)) (xs : List (Bor (List ℕ))) (at : ℕ) (w : Bor (List ℕ)) → at ≡ length xs → slice_get words at ≡ Some w.now
    → map (λ s. s.now) xs ≡ take (length xs) words → map (λ s. s.now) (xs ++ w ∷ []) ≡ take (length (xs ++ w ∷ [])) words
more words xs at w here is so =
    let h : slice_get words (length xs) ≡ Some w.now = subst (λ n. slice_get words n ≡ Some w.now) here is in
    let long : suc (length xs) ≡ length (xs ++ w ∷ []) = omega (arith, length-append xs (w ∷ [])) in
    map-append (λ s. s.now) xs (w ∷ [])
    ∙ ap₂ (λ a b. a ++ b ∷ []) so (sym (get_or_from_slice_get words (length xs) w.now [] h))
    ∙ sym (take-suc words (length xs) [] (slice_get_within words (length xs) w.now h))
    ∙ ap (λ n. take n words) long

pub loop-word-preserved : goal.loop-word-preserved
loop-word-preserved c =
    let here : c.len.result ≡ length c.loop-word.texts.items = search rules in
    subst (λ ys. map (λ s. s.now) ys ≡ take (length ys) c.args.words.now) (sym c.in_ok-push.ensures.items)
    (more c.args.words.now c.loop-word.texts.items c.len.result c.in-Some.word here c.in-Some.ensures c.loop-word.invariant)
