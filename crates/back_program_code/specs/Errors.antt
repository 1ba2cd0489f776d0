-- Why no image is made, where a line has no instructions.
use Rattle.back_emit.specs.declared.errors.EmitError.{EmitError}
use Rattle.back_emit.specs.declared.errors.EmitError.TheVariants as emit
use Rattle.back_program_code.specs.declared.errors.ImageError.{ImageError}
use Rattle.back_program_code.specs.declared.errors.ImageError.TheVariants as image

abbrev pub image_error : EmitError → ImageError
image_error emit.NoMemory = image.NoMemory
image_error emit.TooLarge = image.TooLarge
