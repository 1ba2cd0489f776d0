-- A block of the stack that is appended, by what is inside and by its landing.
use Rattle.std.proofs.Common.{◌≡◌, ℕ, ◌+◌, refl, List, [], ◌∷◌, ◌++◌, Result, OnOk, ap, subst, append_assoc, ◌∙◌}
use Rattle.mid_code.specs.MidCode.{MidStep, MidCodes, with_block, code_of}
use Rattle.mid_arena.specs.Tags.{nil_word}
use Rattle.back_lowering.specs.Steps.{Steps, constant}
use Rattle.back_lowering.specs.Records.{tagbody_code}
use Rattle.back_calls.specs.RecordWords.{tagbody_begun, level_block, levels}

-- what is appended, where it is a step with this code inside and this landing
pub block_appended : {T E : Type 0} (r : Result T E) (new old : Steps) (step : MidStep) (block words word : ℕ) (inside within landing landed : Steps)
    → step ≡ with_block block words word (code_of inside) (code_of landing)
    → inside ≡ within
    → landing ≡ landed
    → OnOk r (new ≡ old ++ step ∷ [])
    → OnOk r (new ≡ old ++ with_block block words word (code_of within) (code_of landed) ∷ [])
block_appended r new old step block words word inside within landing landed is i l x =
    subst (λ (s : MidStep). OnOk r (new ≡ old ++ s ∷ []))
    (is
    ∙ ap (λ (c : Steps). with_block block words word (code_of c) (code_of landing)) i
    ∙ ap (λ (c : Steps). with_block block words word (code_of within) (code_of c)) l)
    x

-- what is appended in three parts
pub three_appended : {T E : Type 0} (r : Result T E) (new third second old one two three all : Steps)
    → second ≡ old ++ one
    → third ≡ second ++ two
    → one ++ (two ++ three) ≡ all
    → OnOk r (new ≡ third ++ three)
    → OnOk r (new ≡ old ++ all)
three_appended r new third second old one two three all a b e x =
    subst (λ (c : Steps). OnOk r (new ≡ c))
    (ap (λ (c : Steps). c ++ three) (b ∙ ap (λ (c : Steps). c ++ two) a)
    ∙ append_assoc (old ++ one) two three
    ∙ append_assoc old one (two ++ three)
    ∙ ap (λ (c : Steps). old ++ c) e)
    x

pub tagbody_appended : {T E : Type 0} (r : Result T E) (new third second old level : Steps) (repeated last : MidStep) (d segments : ℕ) (bodies : MidCodes)
    → second ≡ old ++ tagbody_begun d
    → level ≡ level_block d segments bodies ∷ constant (d + 7) segments ∷ []
    → repeated ≡ levels d level
    → third ≡ second ++ repeated ∷ []
    → last ≡ constant d nil_word
    → OnOk r (new ≡ third ++ last ∷ [])
    → OnOk r (new ≡ old ++ tagbody_code d segments bodies)
tagbody_appended r new third second old level repeated last d segments bodies a l is b n x =
    three_appended r new third second old (tagbody_begun d) (levels d (level_block d segments bodies ∷ constant (d + 7) segments ∷ []) ∷ [])
    (constant d nil_word ∷ []) (tagbody_code d segments bodies)
    a
    (b ∙ ap (λ (s : MidStep). second ++ s ∷ []) (is ∙ ap (λ (c : Steps). levels d c) l))
    refl
    (subst (λ (s : MidStep). OnOk r (new ≡ third ++ s ∷ [])) n x)
