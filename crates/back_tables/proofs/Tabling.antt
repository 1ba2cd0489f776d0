-- Flags and rows that were made of a program are its tables.
use Rattle.std.proofs.Common.{◌≡◌, ℕ, zero, suc, ◌+◌, ◌<◌, ◌≤◌, Bool, false, List, [], ◌∷◌, ◌++◌, length, take, map, Option, Some, None, slice_get, slice_index_or, sym, ◌∙◌, ap, ⊎_elim, arith}
use Rattle.std.proofs.lemmas.Bool.{cases_lt}
use Rattle.std.proofs.lemmas.List.{get_or_past, map-append}
use Rattle.std.proofs.lemmas.Option.{slice_get_within}
use Rattle.base.specs.model.DataRest.{take_at}
use Rattle.lang_meaning.specs.Lookup.{text}
use Rattle.lang_meaning.specs.Literals.{function_row}
use Rattle.lang_meaning.specs.declared.program.FunctionRow.{FunctionRow}
use Rattle.flat_language.specs.declared.program.FlatProcedure.{FlatProcedure}
use Rattle.flat_language.specs.declared.program.FlatProgram.{FlatProgram}
use Rattle.back_lowering.specs.Calls.{is_method}
use Rattle.back_lowering.specs.Sites.{asks_site}
use Rattle.back_calls.specs.Tabled.{IsTabled}
use Rattle.back_calls.specs.declared.given.Given.{Given}
use Rattle.back_calls.specs.declared.given.Tables.{Tables}
use Rattle.lang_rows.specs.Marked.{methods_of, AreFlags}
use Rattle.lang_rows.specs.Numbered.{IsNumber, AreNumbered, AreOfNames}
use Rattle.lang_rows.proofs.Numbering.{has_number, number_outside}

abbrev pub procedure_asks : FlatProcedure → Bool
procedure_asks q = asks_site q.body

pub asked_more : (qs : List FlatProcedure) (i : ℕ) (q : FlatProcedure) (flags new : List Bool) (b : Bool) → slice_get qs i ≡ Some q
    → flags ≡ map procedure_asks (take i qs) → b ≡ asks_site q.body → new ≡ flags ++ b ∷ [] → new ≡ map procedure_asks (take (i + 1) qs)
asked_more qs i q flags new b h f e g =
    g ∙ ap (λ (bs : List Bool). bs ++ b ∷ []) f ∙ ap (λ (o : Bool). map procedure_asks (take i qs) ++ o ∷ []) e
    ∙ sym (ap (map procedure_asks) (take_at qs i q h) ∙ map-append procedure_asks (take i qs) (q ∷ []))

asked : (qs : List FlatProcedure) (p : ℕ) (q : FlatProcedure) → slice_get qs p ≡ Some q → slice_index_or (map procedure_asks qs) p false ≡ asks_site q.body
asked [] p q h = absurd (cc)
asked (x ∷ xs) zero q h = let same : x ≡ q = cc in ap procedure_asks same
asked (x ∷ xs) (suc p) q h = asked xs p q h

-- the function of a name, in the table of names or not
row_found : (names : List (List ℕ)) (fs : List FunctionRow) (numbered rows : List (Option FunctionRow)) (unnamed : Option FunctionRow) (n : ℕ)
    → AreNumbered names fs numbered → AreOfNames names numbered (length names) rows → unnamed ≡ slice_index_or numbered (length names) None
    → slice_index_or rows n unnamed ≡ function_row names fs (text names n)
row_found names fs numbered rows unnamed n a b e =
    ⊎_elim
    (λ (h : n < length names). let k : (k : ℕ) × IsNumber names n k = has_number names n in b.each n k.0 unnamed h k.1 ∙ a.each n k.0 k.1)
    (λ (h : length names ≤ n).
    get_or_past rows n unnamed (omega (arith, h, b.size)) ∙ e ∙ a.each n (length names) (number_outside names n h))
    (cases_lt n (length names))

pub tabled : (names : List (List ℕ)) (program : FlatProgram) (numbered : List (Option FunctionRow)) (tables : Tables)
    → AreFlags (length program.procedures) (methods_of program.generics) tables.methods → tables.asking ≡ map procedure_asks program.procedures
    → AreNumbered names program.functions numbered → AreOfNames names numbered (length names) tables.rows
    → tables.unnamed ≡ slice_index_or numbered (length names) None
    → (given : Given) → given.names.now ≡ names → given.program.now ≡ program → given.tables.now ≡ tables → IsTabled given
tabled names program numbered tables m s a b u given e f g = record {
  methods = λ p q h.
      let there : slice_get program.procedures p ≡ Some q = sym (ap (λ (z : FlatProgram). slice_get z.procedures p) f) ∙ h in
      ap (λ (t : Tables). slice_index_or t.methods p false) g
      ∙ m.each p (slice_get_within program.procedures p q there)
      ∙ sym (ap (λ (z : FlatProgram). is_method z p) f);
  asking = λ p q h.
      let there : slice_get program.procedures p ≡ Some q = sym (ap (λ (z : FlatProgram). slice_get z.procedures p) f) ∙ h in
      ap (λ (t : Tables). slice_index_or t.asking p false) g ∙ ap (λ (bs : List Bool). slice_index_or bs p false) s ∙ asked program.procedures p q there;
  rows = λ n.
      ap (λ (t : Tables). slice_index_or t.rows n t.unnamed) g
      ∙ row_found names program.functions numbered tables.rows tables.unnamed n a b u
      ∙ sym (ap (λ (z : FlatProgram). function_row names z.functions (text names n)) f)
      ∙ sym (ap (λ (ns : List (List ℕ)). function_row ns given.program.now.functions (text ns n)) e);
}
