-- Names that are below a number, tested one after another.
use Rattle.std.proofs.Common.{◌≡◌, ℕ, ◌<◌, Bool, true, false, ◌&&◌, List, [], ◌∷◌, refl, sym, ◌∙◌, ap, length, arith}
use Rattle.std.proofs.lemmas.Bool.Decides.{nat_tests}
use Rattle.std.specs.Prelude.{◌↔◌, IsTrue, nat_lt}
use Rattle.std.specs.List.{list_all}
use Rattle.base.specs.declared.datum.Name.{Name}
use Rattle.base.specs.AllOf.{AllOf}
use Rattle.flat_language.specs.declared.program.FlatProgram.{FlatProgram}
use Rattle.back_words.specs.Asked.{NamesAsked}
use Rattle.back_words.specs.Uses.{Use, globals_among, dynamics_among, symbols_among, program_uses}
use Rattle.back_uses.specs.declared.used.UsedNames.{UsedNames}
use Rattle.back_uses.specs.Used.{named, AreUsed}

abbrev below : ℕ → ℕ → Bool
below count n = nat_lt n count

-- a name's number is that of the name
named_below : (count : ℕ) (ns : List ℕ) → list_all (λ (n : Name). nat_lt n.0 count) (named ns) ≡ list_all (below count) ns
named_below count [] = refl
named_below count (n ∷ ns) = ap (λ b. below count n && b) (named_below count ns)

both_true : (a b : Bool) → (a && b) ≡ true → (a ≡ true) × (b ≡ true)
both_true true true h = (refl, refl)
both_true true false h = absurd (cc h)
both_true false b h = absurd (cc h)

all_below : (count : ℕ) (ns : List ℕ) → list_all (below count) ns ≡ true → AllOf (λ n. n < count) ns
all_below count [] h = tt
all_below count (n ∷ ns) h =
    let both = both_true (below count n) (list_all (below count) ns) h in
    let first : below count n ≡ true = both.0 in
    (grind (arith, nat_tests), all_below count ns both.1)

below_all : (count : ℕ) (ns : List ℕ) → AllOf (λ n. n < count) ns → list_all (below count) ns ≡ true
below_all count [] h = refl
below_all count (n ∷ ns) h =
    let first : below count n ≡ true = grind (arith, nat_tests, h.0) in
    ap (λ b. b && list_all (below count) ns) first ∙ below_all count ns h.1

-- of names that are used
pub tested : (names : List (List ℕ)) (program : FlatProgram) (used : UsedNames) (count : ℕ) (variables symbols result : Bool) → count ≡ length names
    → AreUsed (program_uses names program) used → variables ≡ (list_all (below count) used.globals && list_all (below count) used.dynamics)
    → symbols ≡ list_all (λ (n : Name). nat_lt n.0 count) used.symbols → result ≡ (variables && symbols) → IsTrue result ↔ NamesAsked names program
tested names program used count variables symbols result e is first last same = (forth, back)
  where
    us : List Use
    us = program_uses names program

    globals : list_all (below count) used.globals ≡ list_all (below count) (globals_among us)
    globals = ap (list_all (below count)) is.globals

    dynamics : list_all (below count) used.dynamics ≡ list_all (below count) (dynamics_among us)
    dynamics = ap (list_all (below count)) is.dynamics

    conditions : list_all (λ (n : Name). nat_lt n.0 count) used.symbols ≡ list_all (below count) (symbols_among us)
    conditions = ap (list_all (λ (n : Name). nat_lt n.0 count)) is.symbols ∙ named_below count (symbols_among us)

    forth : result ≡ true → NamesAsked names program
    forth h =
        let both = both_true variables symbols (sym same ∙ h) in
        let of_variables = both_true (list_all (below count) used.globals) (list_all (below count) used.dynamics) (sym first ∙ both.0) in
        record {
          globals = rw (sym e) (all_below count (globals_among us) (sym globals ∙ of_variables.0));
          dynamics = rw (sym e) (all_below count (dynamics_among us) (sym dynamics ∙ of_variables.1));
          symbols = rw (sym e) (all_below count (symbols_among us) (sym conditions ∙ sym last ∙ both.1));
        }

    back : NamesAsked names program → result ≡ true
    back h =
        let g : list_all (below count) used.globals ≡ true = globals ∙ below_all count (globals_among us) (rw e h.globals) in
        let d : list_all (below count) used.dynamics ≡ true = dynamics ∙ below_all count (dynamics_among us) (rw e h.dynamics) in
        let s : symbols ≡ true = last ∙ conditions ∙ below_all count (symbols_among us) (rw e h.symbols) in
        let v : variables ≡ true = first ∙ ap (λ b. b && list_all (below count) used.dynamics) g ∙ d in
        same ∙ ap (λ b. b && symbols) v ∙ s
