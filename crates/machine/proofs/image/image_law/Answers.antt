use Rattle.std.proofs.Common.{◌≡◌, Ok, sym, subst}
use Rattle.machine.specs.ImageReading.{image_read}
use Rattle.machine.proofs.ImageLaws.{image_takes, image_again}
use Rattle.machine.proofs.image.image_law.Goals as goal

pub returns : goal.returns
returns c bytes p are = (image_takes bytes p are, λ is. subst (λ spelled. image_read spelled ≡ Ok p) (sym is.spelled) (image_again p is.rules is.numbers))
