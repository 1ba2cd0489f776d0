-- What was built is the image of the program, and has few words.
use Rattle.std.proofs.Common.{rules, ◌≡◌, ◌≤◌, ℕ, length, refl, subst, arith}
use Rattle.lang_meaning.specs.declared.program.ProgramRows.{ProgramRows}
use Rattle.lang_reached.specs.Sizes.{most_words}
use Rattle.front_profile.specs.ProgramNames.{NamesIn}
use Rattle.back_image_sizes.specs.Sizes.{program_image_words}
use Rattle.top_expansion.proofs.compiling.compile.Goals as goal

-- the words of an image, by the numbers of the definition
most_is : (program : ProgramRows) → program_image_words program ≡ most_words program
most_is program = refl

pub returns-in-Ok : goal.returns-in-Ok
returns-in-Ok c =
    let reached = c.in-Ok.ensures.reached_size in
    let fits = subst (λ (n : ℕ). length c.in-Ok.built.image.words ≤ n) (most_is reached.0) reached.2 in
    record {
      is_built = c.in-Ok.ensures.image;
      few = record { left = reached.0; keeps = reached.1; few = omega (arith, fits) };
      named =
          subst (λ (n : ℕ). NamesIn n c.args.program.now) c.len.ensures.len
          (c.are_names_below-are.ensures.0 (search rules));
    }
