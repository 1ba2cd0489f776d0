-- Names are told apart by their numbers as their texts are, and functions are noted by them.
use Rattle.std.proofs.Common.{◌≡◌, ◌≢◌, ℕ, ◌+◌, ◌<◌, ◌≤◌, ◌==◌, Bool, List, [], ◌∷◌, ◌++◌, length, drop, Option, Some, None, slice_get, slice_set, slice_index_or, if◌then◌else◌, refl, sym, ◌∙◌, ap, subst, ⊎_elim, inl, inr, arith}
use Rattle.std.specs.Str.{bytes_eq}
use Rattle.std.specs.Bool.{Decides}
use Rattle.std.proofs.Math.ListN.{length-set}
use Rattle.std.proofs.lemmas.Bool.{cases_lt}
use Rattle.std.proofs.lemmas.Bool.Decides.{Decides-eqb, same_from_decides}
use Rattle.std.proofs.lemmas.List.{drop_all, get_or_past}
use Rattle.std.proofs.lemmas.Option.{slice_get-get_or}
use Rattle.std.proofs.lemmas.Slice.Eq.{bytes_eq-Decides}
use Rattle.base.specs.Names.{IsTable}
use Rattle.base.specs.model.DataRest.{rest_at}
use Rattle.lang_meaning.specs.Lookup.{text}
use Rattle.lang_meaning.specs.declared.program.FunctionRow.{FunctionRow}
use Rattle.lang_rows.specs.Numbered.{IsNumber, AreNumbered, IsNoted, AreOfNames}
use Rattle.lang_rows.proofs.Filling.{AreAll, one_longer, before_end, at_end, looked_up}

-- a name that has a text is in the table
inside : (names : List (List ℕ)) (n : ℕ) → text names n ≢ [] → n < length names
inside names n f = ⊎_elim (λ (h : n < length names). h) (λ (h : length names ≤ n). absurd (f (get_or_past names n [] h))) (cases_lt n (length names))

-- each name has a number, which is at most that behind the table
pub has_number : (names : List (List ℕ)) (n : ℕ) → (k : ℕ) × IsNumber names n k
has_number names n = by (text names n) refl
  where
    by : (t : List ℕ) → text names n ≡ t → (k : ℕ) × IsNumber names n k
    by [] e = (length names, inl (e, refl))
    by (b ∷ bs) e = (n, inr (λ f. absurd (cc (e, f)), refl))

pub number_inside : (names : List (List ℕ)) (n k : ℕ) → IsNumber names n k → k < length names + 1
number_inside names n k x =
    ⊎_elim (λ (a : (text names n ≡ []) × (k ≡ length names)). omega (arith, a.1))
    (λ (a : (text names n ≢ []) × (k ≡ n)). omega (arith, a.1, inside names n a.0)) x

pub number_outside : (names : List (List ℕ)) (n : ℕ) → length names ≤ n → IsNumber names n (length names)
number_outside names n h = inl (get_or_past names n [] h, refl)

pub same_number : (names : List (List ℕ)) (n m k l : ℕ) → IsTable names → IsNumber names n k → IsNumber names m l → text names n ≡ text names m → k ≡ l
same_number names n m k l t x y e =
    ⊎_elim
    (λ (a : (text names n ≡ []) × (k ≡ length names)).
    ⊎_elim
    (λ (b : (text names m ≡ []) × (l ≡ length names)). a.1 ∙ sym b.1)
    (λ (b : (text names m ≢ []) × (l ≡ m)). absurd (b.0 (sym e ∙ a.0)))
    y)
    (λ (a : (text names n ≢ []) × (k ≡ n)).
    ⊎_elim
    (λ (b : (text names m ≡ []) × (l ≡ length names)). absurd (a.0 (e ∙ b.0)))
    (λ (b : (text names m ≢ []) × (l ≡ m)).
    a.1
    ∙ t.once n m (text names n) (slice_get-get_or names n [] (inside names n a.0)) (slice_get-get_or names m [] (inside names m b.0) ∙ ap Some (sym e))
    ∙ sym b.1)
    y)
    x

same_text : (names : List (List ℕ)) (n k : ℕ) → IsNumber names n k → text names k ≡ text names n
same_text names n k x =
    ⊎_elim
    (λ (a : (text names n ≡ []) × (k ≡ length names)). get_or_past names k [] (omega (arith, a.1)) ∙ sym a.0)
    (λ (a : (text names n ≢ []) × (k ≡ n)). ap (text names) a.1)
    x

-- so one test is the other
pub told : (names : List (List ℕ)) (n m k l : ℕ) → IsTable names → IsNumber names n k → IsNumber names m l
    → (k == l) ≡ bytes_eq (text names n) (text names m)
told names n m k l t x y =
    let texts : Decides (bytes_eq (text names n) (text names m)) (text names n ≡ text names m) = bytes_eq-Decides (text names n) (text names m) in
    same_from_decides {P = k ≡ l} (k == l) (bytes_eq (text names n) (text names m)) (Decides-eqb k l)
    (λ h. same_number names n m k l t x y (texts.0 h), λ e. texts.1 (sym (same_text names n k x) ∙ ap (text names) e ∙ same_text names m l y))

-- functions are noted, from the last to the first

pub none_noted : (names : List (List ℕ)) (new : List (Option FunctionRow)) → AreAll None (length names + 1) new
    → AreNumbered names [] new
none_noted names new b = record { size = b.size; each = λ n k x. b.each k }

pub no_function_yet : (names : List (List ℕ)) (fs : List FunctionRow) (at : ℕ) (rows : List (Option FunctionRow)) → length fs ≤ at → AreNumbered names [] rows
    → AreNumbered names (drop at fs) rows
no_function_yet names fs at rows h a = rw (drop_all at fs h) a

pub function_noted : (names : List (List ℕ)) (fs : List FunctionRow) (at k : ℕ) (f : FunctionRow) (rows new : List (Option FunctionRow)) → at ≡ k + 1
    → slice_get fs k ≡ Some f → AreNumbered names (drop at fs) rows → IsNoted names f rows new → AreNumbered names (drop k fs) new
function_noted names fs at k f rows new e h a b =
    let so : AreNumbered names (drop (k + 1) fs) rows = subst (λ (i : ℕ). AreNumbered names (drop i fs) rows) e a in
    rw (rest_at fs k f h)
    (record {
      size = b.size ∙ so.size;
      each = λ n l x.
          b.each n l x
          ∙ ap (λ (o : Option FunctionRow). if bytes_eq (text names n) (text names f.name.0) then Some f else o) (so.each n l x);
    })

pub one_noted : (names : List (List ℕ)) (f : FunctionRow) (number : ℕ) (old new : List (Option FunctionRow)) → IsTable names → length old ≡ length names + 1
    → IsNumber names f.name.0 number → new ≡ slice_set old number (Some f) → IsNoted names f old new
one_noted names f number old new t h y e = record {
  size = ap length e ∙ length-set old number (Some f);
  each = λ n k x.
      ap (λ (rows : List (Option FunctionRow)). slice_index_or rows k None) e
      ∙ looked_up old number k (Some f) None (omega (arith, h, number_inside names f.name.0 number y))
      ∙ ap (λ (b : Bool). if b then Some f else slice_index_or old k None) (told names n f.name.0 k number t x y);
}

-- names, from the first to the last

pub no_name_yet : (names : List (List ℕ)) (numbered rows : List (Option FunctionRow)) → rows ≡ [] → AreOfNames names numbered 0 rows
no_name_yet names numbered rows e = record { size = ap length e; each = λ n k d h x. absurd (omega (arith, h)) }

pub name_more : (names : List (List ℕ)) (numbered rows new : List (Option FunctionRow)) (i number : ℕ) (row : Option FunctionRow) → IsTable names
    → IsNumber names i number → row ≡ slice_index_or numbered number None → new ≡ rows ++ row ∷ [] → AreOfNames names numbered i rows
    → AreOfNames names numbered (i + 1) new
name_more names numbered rows new i number row t y r e a = record {
  size = one_longer rows row new i a.size e;
  each = λ n k d h x.
      ap (λ (zs : List (Option FunctionRow)). slice_index_or zs n d) e
      ∙ ⊎_elim
      (λ (below : n < i). before_end rows row n d (omega (arith, below, a.size)) ∙ a.each n k d below x)
      (λ (past : i ≤ n).
      let same : n ≡ i = omega (arith, past, h) in
      let last : n ≡ length rows = same ∙ sym a.size in
      let numbers : number ≡ k = same_number names i n number k t y x (ap (text names) (sym same)) in
      ap (λ (j : ℕ). slice_index_or (rows ++ row ∷ []) j d) last ∙ at_end rows row d ∙ r ∙ ap (λ (j : ℕ). slice_index_or numbered j None) numbers)
      (cases_lt n i);
}
