use Rattle.machine.proofs.ImageLaws.{image_of_injective}
use Rattle.machine.proofs.image.images_differ.Goals as goal

pub returns : goal.returns
returns c = image_of_injective
