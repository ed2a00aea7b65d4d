-- `request_in` reads the three fields of a line.
-- Each number is that of its field.
use Rattle.std.proofs.Common.{rules}
use Rattle.listing_lines.specs.Request.{request_of}
use Rattle.listing_lines.proofs.request_in.Goals as goal

pub returns-in_err-number_in : goal.returns-in_err-number_in
unfolding request_of
returns-in_err-number_in c = search rules

pub returns-in_err-number_in-2 : goal.returns-in_err-number_in-2
unfolding request_of
returns-in_err-number_in-2 c = search rules

pub returns-in_err-number_in-3 : goal.returns-in_err-number_in-3
unfolding request_of
returns-in_err-number_in-3 c = search rules

pub returns : goal.returns
unfolding request_of
returns c = search rules
