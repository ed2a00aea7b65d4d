-- `put_byte` leaves its byte at byte `at`, and every other one as it was.
-- A store is what stands before it, the byte, and what stands behind (Places).
use Rattle.listing_lines.proofs.Puts.{put_one}
use Rattle.listing_lines.proofs.put_byte.Goals as goal

pub returns : goal.returns
returns c = put_one c.args.bytes.now c.args.at c.args.b c.requires
