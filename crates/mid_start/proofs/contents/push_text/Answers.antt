-- The header and the number of bytes stand first; each word of the bytes is appended to them.
use Rattle.std.proofs.Common.{◌≡◌, ℕ, ◌*◌, List, [], ◌∷◌, ◌++◌, length, refl, sym, ◌∙◌, ap, append_assoc, add-one}
use Rattle.mid_start.specs.Contents.{packed_words}
use Rattle.mid_start.proofs.contents.push_text.Goals as goal

one_more : (old mid new ws : List ℕ) (v w : ℕ) → mid ≡ old ++ ws → new ≡ mid ++ v ∷ [] → v ≡ w → new ≡ old ++ (ws ++ w ∷ [])
one_more old mid new ws v w first then same = then ∙ ap (λ k. mid ++ k ∷ []) same ∙ ap (λ vs. vs ++ w ∷ []) first ∙ append_assoc old ws (w ∷ [])

pub loop-number-init : goal.loop-number-init
loop-number-init c =
    one_more c.args.words.now c.push.new.self c.push-2.new.self (c.args.header ∷ []) (4 * length c.args.bytes.now) _ c.in_ok-push.ensures.ok
    c.in_ok-push-2.ensures.ok refl

pub loop-number-preserved : goal.loop-number-preserved
loop-number-preserved c =
    one_more c.args.words.now c.loop-number.words c.push-in-loop-number.new.self
    (c.args.header ∷ 4 * length c.args.bytes.now ∷ packed_words c.args.bytes.now c.loop-number.number) c.packed_word.result _ c.loop-number.invariant
    c.in_ok-push-3.ensures.ok c.packed_word.ensures
    ∙ ap (λ k. c.args.words.now ++ c.args.header ∷ 4 * length c.args.bytes.now ∷ packed_words c.args.bytes.now k) (sym (add-one c.loop-number.number))
