-- What an image that was built does, with what its words say of values by themselves.
use Rattle.std.proofs.Common.{refl, ◌≡◌, ◌≤◌, ◌^◌, ℕ, List, length, ◌⊎◌, inl, inr, subst}
use Rattle.std.specs.Prelude.{slice_index}
use Rattle.lang_meaning.specs.declared.program.ProgramRows.{ProgramRows}
use Rattle.lang_meaning.specs.Meaning.{Meant}
use Rattle.rv_machine.specs.declared.ending.Ending.TheVariants.{Budget}
use Rattle.rv_machine.specs.Run.{Ended}
use Rattle.back_build.specs.declared.building.Built.{Built}
use Rattle.back_build.specs.Means.{HaltsWith, EndsUnhandled, EndsFull, IsBuilt}
use Rattle.back_build.specs.Reached.{OfReached, IsSized}
use Rattle.back_image_sizes.specs.Sizes.{program_image_words}
use Rattle.top_main.specs.Images.{AreBytes, Halts, Signals, HasNoRoom, Does, IsImageOf}
use Rattle.lang_reached.specs.Sizes.{most_words}
use Rattle.top_main.proofs.WordOf.{word_is}

-- the ends of its runs
module _ (names : List (List ℕ)) (program : ProgramRows) (built : Built) (m : Meant) (x : Ended) where
  halts : HaltsWith names program built.symbols m x → Halts m x
  halts h = record {
    word = h.word;
    ending = h.ending;
    result = h.result;
    end = h.end;
    word_is = word_is names program built m x h.result h.word h.has_word;
    printed = h.printed;
  }

  signals : EndsUnhandled names program built.symbols m x → Signals program m x
  signals u = record {
    class = u.class;
    ending = u.ending;
    condition = u.condition;
    place = u.place;
    end = u.end;
    class_is = u.class_is;
    site_is = u.site_is;
    word_is = word_is names program built m x u.condition (slice_index x.at.state.registers 12) u.has_word;
    printed = u.printed;
  }

  no_room : EndsFull names program built.symbols x → HasNoRoom x
  no_room f = record { asked = f.asked; left = f.left; ending = f.ending }

  ways : (x.ending ≡ Budget) ⊎ HaltsWith names program built.symbols m x ⊎ EndsUnhandled names program built.symbols m x ⊎ EndsFull names program built.symbols x
      → (x.ending ≡ Budget) ⊎ Halts m x ⊎ Signals program m x ⊎ HasNoRoom x
  ways (inl b) = inl b
  ways (inr (inl h)) = inr (inl (halts h))
  ways (inr (inr (inl u))) = inr (inr (inl (signals u)))
  ways (inr (inr (inr f))) = inr (inr (inr (no_room f)))

does : (names : List (List ℕ)) (program : ProgramRows) (built : Built) → IsBuilt names program built.symbols built.image
    → (arena : ℕ) (input : List ℕ) → length built.image.words ≤ arena → arena ≤ 2 ^ 24 → AreBytes input
    → Does names program built.image.words built.image.entry arena input
does names program built is arena input fits most bytes =
    let means = is arena input fits most bytes in
    record {
      prefix = means.prefix;
      ends = λ n below. ways names program built _ _ (means.ends n below);
      full = λ n below f charge k holds more.
          let full = means.full n below (record { asked = f.asked; left = f.left; ending = f.ending }) charge k holds more in
          record { asked = full.asked; left = full.left; end = full.end };
      in_time = λ charge k n holds small enough.
          let ended = means.in_time charge k n holds small enough in
          (λ v e. halts names program built _ _ (ended.0 v e), λ c place e. signals names program built _ _ (ended.1 c place e));
    }

-- the words of an image, by the numbers of the statement
most_is : (program : ProgramRows) → program_image_words program ≡ most_words program
most_is program = refl

pub seen :
    (names : List (List ℕ)) (program : ProgramRows) (built : Built) → IsBuilt names program built.symbols built.image
    → IsSized built.image program → OfReached names program (IsSized built.image) → IsImageOf names program built.image
seen names program built is sized reached = record {
  does = does names program built is;
  small = record {
    left = reached.0;
    keeps = reached.1;
    by_reached = subst (λ n. length built.image.words ≤ n) (most_is reached.0) reached.2;
    by_whole = subst (λ n. length built.image.words ≤ n) (most_is program) sized;
  };
}
