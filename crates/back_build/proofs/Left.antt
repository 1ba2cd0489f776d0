-- What an image of the program that keeps what is reached does, it does of the whole program; and its nodes are no more.
use Rattle.std.proofs.Common.{inl, inr, ◌≡◌, ◌⊎◌, ℕ, ◌+◌, ◌*◌, ◌^◌, ◌<◌, ◌≤◌, List, sym, ap, subst, ◌∙◌, arith}
use Rattle.std.proofs.Math.Nat.{mul-le-mul_left}
use Rattle.lang_meaning.specs.declared.program.Procedure.{Procedure}
use Rattle.lang_meaning.specs.declared.program.ProgramRows.{ProgramRows}
use Rattle.lang_meaning.specs.Counts.{bound}
use Rattle.lang_meaning.specs.Meaning.{Meant, meaning}
use Rattle.lang_meaning.specs.Prefixes.{IsPrefix}
use Rattle.lang_meaning.specs.ProgramCounts.{program_nodes}
use Rattle.lang_meaning.specs.State.{Limit, words, unlimited}
use Rattle.lang_meaning.specs.Values.{Value}
use Rattle.lang_reached.specs.Remaining.{KeepsReached}
use Rattle.rv_machine.specs.declared.ending.Ending.TheVariants.{Budget}
use Rattle.rv_machine.specs.declared.image.Image.{Image}
use Rattle.rv_machine.specs.Run.{Ended, run_of}
use Rattle.mid_start.specs.declared.symbol_words.SymbolWord.{SymbolWord}
use Rattle.back_image_sizes.specs.Sizes.{program_image_words}
use Rattle.back_meant.specs.Laws.{GoesOn}
use Rattle.back_build.specs.Means.{HasWord, HaltsWith, EndsUnhandled, EndsFull, IsFull, ImageMeans}
use Rattle.back_build.specs.Compiled.{LawOfLeft}
use Rattle.back_build.specs.Faults.{Fails, FailsReached}
use Rattle.back_build.specs.Reached.{IsSized}
use Rattle.back_build.specs.declared.faults.BuildFault.{BuildFault}
use Rattle.back_build.specs.declared.faults.BuildFault.TheVariants as fault

module _ (names : List (List ℕ)) (program : ProgramRows) (symbols : List SymbolWord) (procedures : List Procedure) where
  -- a program with other procedures
  abbrev left : ProgramRows
  left = record program { procedures = procedures }

  -- all that an end speaks of is the same
  has_word : (m : Meant) (x : Ended) (v : Value) (word : ℕ) → HasWord names left symbols m x v word → HasWord names program symbols m x v word
  has_word m x v word h = record {
    places = h.places;
    state = h.state;
    alike = h.alike;
    arena = h.arena;
    represents = h.represents;
    of_value = h.of_value;
    leaves = h.leaves;
    listed = h.listed;
    once = h.once;
    serials = h.serials;
  }

  halts : (m : Meant) (x : Ended) → HaltsWith names left symbols m x → HaltsWith names program symbols m x
  halts m x h = record {
    word = h.word;
    ending = h.ending;
    result = h.result;
    end = h.end;
    has_word = has_word m x h.result h.word h.has_word;
    printed = h.printed;
  }

  unhandled : (m : Meant) (x : Ended) → EndsUnhandled names left symbols m x → EndsUnhandled names program symbols m x
  unhandled m x h = record {
    class = h.class;
    ending = h.ending;
    condition = h.condition;
    place = h.place;
    end = h.end;
    class_is = h.class_is;
    site_is = h.site_is;
    has_word = has_word m x h.condition _ h.has_word;
    printed = h.printed;
  }

  no_room : (x : Ended) → EndsFull names left symbols x → EndsFull names program symbols x
  no_room x h = record { asked = h.asked; left = h.left; ending = h.ending }

  no_room_left : (x : Ended) → EndsFull names program symbols x → EndsFull names left symbols x
  no_room_left x h = record { asked = h.asked; left = h.left; ending = h.ending }

  is_full : (m : Meant) → IsFull names left symbols m → IsFull names program symbols m
  is_full m h = record { asked = h.asked; left = h.left; end = h.end }

  -- and so it is where both mean the same
  module _ (input : List ℕ) (same : (levels : ℕ) (limit : Limit) → meaning names left input levels limit ≡ meaning names program input levels limit)
      (image : List ℕ) (entry arena : ℕ) (h : ImageMeans names left symbols image entry arena input) where
    abbrev the_run : ℕ → Ended
    the_run n = run_of image entry arena input n

    halts_so : (k : ℕ) (limit : Limit) (x : Ended) → HaltsWith names left symbols (meaning names left input k limit) x
        → HaltsWith names program symbols (meaning names program input k limit) x
    halts_so k limit x e = subst (λ m. HaltsWith names program symbols m x) (same k limit) (halts (meaning names left input k limit) x e)

    unhandled_so : (k : ℕ) (limit : Limit) (x : Ended) → EndsUnhandled names left symbols (meaning names left input k limit) x
        → EndsUnhandled names program symbols (meaning names program input k limit) x
    unhandled_so k limit x e = subst (λ m. EndsUnhandled names program symbols m x) (same k limit) (unhandled (meaning names left input k limit) x e)

    ends_so : (k : ℕ) (limit : Limit) (x : Ended)
        → (x.ending ≡ Budget) ⊎ HaltsWith names left symbols (meaning names left input k limit) x ⊎ EndsUnhandled names left symbols (meaning names left input k limit) x
        ⊎ EndsFull names left symbols x
        → (x.ending ≡ Budget) ⊎ HaltsWith names program symbols (meaning names program input k limit) x
        ⊎ EndsUnhandled names program symbols (meaning names program input k limit) x ⊎ EndsFull names program symbols x
    ends_so k limit x (inl e) = inl e
    ends_so k limit x (inr (inl e)) = inr (inl (halts_so k limit x e))
    ends_so k limit x (inr (inr (inl e))) = inr (inr (inl (unhandled_so k limit x e)))
    ends_so k limit x (inr (inr (inr e))) = inr (inr (inr (no_room x e)))

    means : ImageMeans names program symbols image entry arena input
    means = record {
      prefix = λ n few. subst (λ (m : Meant). IsPrefix (the_run n).at.printed m.printed) (same n unlimited) (h.prefix n few);
      ends = λ n few. ends_so n unlimited (the_run n) (h.ends n few);
      paid = λ n few e. subst (λ (m : Meant). GoesOn m n) (same n unlimited) (h.paid n few e);
      full = λ n few f charge k holds le.
          subst (IsFull names program symbols) (same k (words charge))
          (is_full (meaning names left input k (words charge)) (h.full n few (no_room_left (the_run n) f) charge k holds le));
      in_time = λ charge k n holds low paid.
          let e : meaning names left input k (words charge) ≡ meaning names program input k (words charge) = same k (words charge) in
          let both = h.in_time charge k n holds (subst (λ (m : Meant). bound m.units < 2 ^ 32) (sym e) low) (subst (λ (m : Meant). bound m.units ≤ n) (sym e) paid) in (
            λ v d. halts_so k (words charge) (the_run n) (both.0 v (ap (λ (m : Meant). m.end) e ∙ d)),
            λ c place d. unhandled_so k (words charge) (the_run n) (both.1 c place (ap (λ (m : Meant). m.end) e ∙ d)),
          );
    }

-- **the law of what is left**
pub law_of_left : LawOfLeft
law_of_left names program rest keeps same symbols image built arena input fits small bytes =
    means names program symbols rest.procedures input
    (subst (λ (r : ProgramRows). (levels : ℕ) (limit : Limit) → meaning names r input levels limit ≡ meaning names program input levels limit) keeps.rows (same input))
    image.words image.entry arena
    (subst (λ (r : ProgramRows). ImageMeans names r symbols image.words image.entry arena input) keeps.rows (built arena input fits small bytes))

-- no more nodes, and so no more words
no_more : (each a b main functions classes generics start : ℕ) → a ≤ b
    → each * a + main + functions + classes + generics + start ≤ each * b + main + functions + classes + generics + start
no_more each a b main functions classes generics start h = let more : each * a ≤ each * b = mul-le-mul_left each h in omega (arith, more)

fewer_words : (program : ProgramRows) (procedures : List Procedure) → program_nodes (record program { procedures = procedures }) ≤ program_nodes program
    → program_image_words (record program { procedures = procedures }) ≤ program_image_words program
fewer_words program procedures h = no_more _ (program_nodes (record program { procedures = procedures })) (program_nodes program) _ _ _ _ _ h

pub sized_whole : (names : List (List ℕ)) (program rest : ProgramRows) (image : Image) → KeepsReached names program rest
    → program_nodes rest ≤ program_nodes program → IsSized image rest → IsSized image program
sized_whole names program rest image keeps nodes sized =
    let fewer : program_image_words rest ≤ program_image_words program =
    subst (λ (r : ProgramRows). program_image_words r ≤ program_image_words program) (sym keeps.rows)
    (fewer_words program rest.procedures (subst (λ (r : ProgramRows). program_nodes r ≤ program_nodes program) keeps.rows nodes)) in
    within _ _ _ sized fewer
  where
    within : (a b c : ℕ) → a ≤ b → b ≤ c → a ≤ c
    within a b c h k = omega (arith, h, k)

-- why there is no image of what is left
pub of_reached : (names : List (List ℕ)) (program rest : ProgramRows) → KeepsReached names program rest → (e : BuildFault) → Fails names rest e
    → FailsReached names program e
of_reached names program rest keeps fault.NoMemory h = tt
of_reached names program rest keeps fault.TooLarge h = (rest, keeps, h)
of_reached names program rest keeps fault.FrameTooSmall h = (rest, keeps, h)
of_reached names program rest keeps fault.NotInForm h = (rest, keeps, h)
