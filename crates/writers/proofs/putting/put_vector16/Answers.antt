use Rattle.octets.specs.Number.{octets16}
use lib.ListN.{length}
use Rattle.octets.proofs.WriteLaws.{put_put}
use Rattle.writers.proofs.putting.put_vector16.Goals as goal

pub returns : goal.returns
returns c =
    let a = c.args in
    let f = a.field.now in
    λ h. put_put a.out.now (octets16 (length f)) f a.at h c.put_number16-next.ensures.0 c.put_number16-next.ensures.1 c.put_octets.ensures.0 c.put_octets.ensures.1
