-- Code whose registers are all allowed: how steps are put together.
use Rattle.std.proofs.Common.{ℕ, zero, suc, ◌+◌, ◌<◌, ◌≤◌, Bool, true, false, List, [], ◌∷◌, ◌++◌, arith}
use Rattle.std.specs.Prelude.{pos, if◌then◌else◌}
use Rattle.base.specs.AllOf.{AllOf, all_both}
use Rattle.mid_code.specs.declared.operation.Arithmetic.{Arithmetic}
use Rattle.mid_code.specs.declared.operation.Comparison.{Comparison}
use Rattle.mid_code.specs.declared.operation.Counted.{Counted}
use Rattle.mid_code.specs.declared.operation.Operation.TheVariants.{Draw}
use Rattle.mid_code.specs.declared.operation.Test.{Test}
use Rattle.mid_code.specs.MidCode.{MidStep, perform, switch, repeat, with_block, return_word, cut_to, end_unhandled, MidCodes, code_of}
use Rattle.back_frames.proofs.FormsIn.{in_front, behind}
use Rattle.back_lowering.specs.Registers.{of_step, of_code, of_codes}
use Rattle.back_lowering.specs.Scope.{registers_from}
use Rattle.back_lowering.specs.Steps.{Steps, move, constant, compute, load, store, load_header, request, call, where_so}

-- all registers that are named are allowed
pub record StepNames (P : ℕ → Type 0) (s : MidStep) : Type 0 where
  pub all : AllOf P (of_step s)

pub record Names (P : ℕ → Type 0) (ss : Steps) : Type 0 where
  pub all : AllOf P (of_code (code_of ss))

pub record CodesName (P : ℕ → Type 0) (cs : MidCodes) : Type 0 where
  pub all : AllOf P (of_codes cs)

-- those of a range are
abbrev pub Range : (ℕ → Type 0) → (from height : ℕ) → Type 0
Range P d h = (r : ℕ) → d ≤ r → r < d + h → P r

pub narrowed : {P : ℕ → Type 0} (d h d' h' : ℕ) → Range P d h → d ≤ d' → d' + h' ≤ d + h → Range P d' h'
narrowed d h d' h' all low high r above below = all r (omega (arith, above)) (omega (arith, below))

pub those : {P : ℕ → Type 0} (d n : ℕ) → Range P d n → AllOf P (registers_from d n)
those d zero all = tt
those d (suc n) all = (all d (omega arith) (omega arith), those (d + 1) n (narrowed d (suc n) (d + 1) n all (omega arith) (omega arith)))

-- steps one after another

infixr 50 ◌▸◌ ◌⊹◌
pub none : {P : ℕ → Type 0} → Names P []
none {P} = record { all = tt }

pub ◌▸◌ : {P : ℕ → Type 0} {s : MidStep} {ss : Steps} → StepNames P s → Names P ss → Names P (s ∷ ss)
◌▸◌ {P} {s} {ss} first more = record { all = all_both P (of_step s) (of_code (code_of ss)) first.all more.all }

joined : (P : ℕ → Type 0) (ss ts : Steps) → AllOf P (of_code (code_of ss)) → AllOf P (of_code (code_of ts)) → AllOf P (of_code (code_of (ss ++ ts)))
joined P [] ts first more = more
joined P (s ∷ ss) ts first more =
    all_both P (of_step s) (of_code (code_of (ss ++ ts))) (in_front P (of_step s) (of_code (code_of ss)) first)
    (joined P ss ts (behind P (of_step s) (of_code (code_of ss)) first) more)

pub ◌⊹◌ : {P : ℕ → Type 0} {ss ts : Steps} → Names P ss → Names P ts → Names P (ss ++ ts)
◌⊹◌ {P} {ss} {ts} first more = record { all = joined P ss ts first.all more.all }

pub either : {P : ℕ → Type 0} (b : Bool) (ss ts : Steps) → Names P ss → Names P ts → Names P (if b then ss else ts)
either true ss ts first second = first
either false ss ts first second = second

-- single steps

pub moves : {P : ℕ → Type 0} {to from : ℕ} → P to → P from → StepNames P (move to from)
moves a b = record { all = (a, (b, tt)) }

pub constants : {P : ℕ → Type 0} {to word : ℕ} → P to → StepNames P (constant to word)
constants a = record { all = (a, tt) }

pub computes : {P : ℕ → Type 0} {to first second : ℕ} {how : Arithmetic} → P to → P first → P second → StepNames P (compute to how first second)
computes a b c = record { all = (a, (b, (c, tt))) }

pub loads : {P : ℕ → Type 0} {to base offset : ℕ} → P to → P base → StepNames P (load to base offset)
loads a b = record { all = (a, (b, tt)) }

pub stores : {P : ℕ → Type 0} {from base offset : ℕ} → P from → P base → StepNames P (store from base offset)
stores a b = record { all = (a, (b, tt)) }

pub headers : {P : ℕ → Type 0} {to pointer : ℕ} → P to → P pointer → StepNames P (load_header to pointer)
headers a b = record { all = (a, (b, tt)) }

pub draws : {P : ℕ → Type 0} {to base offset : ℕ} → P to → P base → StepNames P (perform (Draw to base (pos offset)))
draws a b = record { all = (a, (b, tt)) }

pub requests : {P : ℕ → Type 0} {to words : ℕ} → P to → P words → StepNames P (request to words)
requests a b = record { all = (a, (b, tt)) }

pub calls : {P : ℕ → Type 0} {to procedure : ℕ} {arguments : List ℕ} → P to → AllOf P arguments → StepNames P (call to procedure arguments)
calls a more = record { all = (a, more) }

pub returns : {P : ℕ → Type 0} {r : ℕ} → P r → StepNames P (return_word r)
returns a = record { all = (a, tt) }

pub cuts : {P : ℕ → Type 0} {b r : ℕ} → P b → P r → StepNames P (cut_to b r)
cuts a b = record { all = (a, (b, tt)) }

pub ends : {P : ℕ → Type 0} {class site condition : ℕ} → P class → P site → P condition → StepNames P (end_unhandled class site condition)
ends a b c = record { all = (a, (b, (c, tt))) }

pub chooses : {P : ℕ → Type 0} {how : Comparison} {a b : ℕ} {first second : Steps} → P a → P b → Names P first → Names P second
    → StepNames P (where_so how a b first second)
chooses {P} {how} {a} {b} {first} {second} x y one other = record { all = (x, (y, all_both P (of_code (code_of first)) (of_code (code_of second)) one.all other.all)) }

pub blocks : {P : ℕ → Type 0} {block words word : ℕ} {inside landing : Steps} → P block → P word → Names P inside → Names P landing
    → StepNames P (with_block block words word (code_of inside) (code_of landing))
blocks {P} {block} {words} {word} {inside} {landing} x y one other =
    record { all = (x, (y, all_both P (of_code (code_of inside)) (of_code (code_of landing)) one.all other.all)) }

pub repeats : {P : ℕ → Type 0} {counted : Counted} {head body : Steps} {t : Test} → P t.first → P t.second → Names P head → Names P body
    → StepNames P (repeat counted (code_of head) t (code_of body))
repeats {P} {counted} {head} {body} {t} x y one other =
    record { all = (x, (y, all_both P (of_code (code_of head)) (of_code (code_of body)) one.all other.all)) }

pub switches : {P : ℕ → Type 0} {r : ℕ} {codes : MidCodes} → P r → CodesName P codes → StepNames P (switch r codes)
switches x all = record { all = (x, all.all) }
