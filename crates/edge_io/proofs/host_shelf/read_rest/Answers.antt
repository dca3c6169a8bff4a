-- The reader is asked for a byte more than the limit, and gave no more than the limit.
use Rattle.std.proofs.Common.{ℕ, ◌+◌, ap, take, ◌∙◌, ◌≤◌, length, rules}
use Rattle.std.specs.Option.{option_map}
use Rattle.edge_io.specs.Limits.{file_limit}
use Rattle.edge_io.proofs.ReaderLemmas.{all_given}
use Rattle.edge_io.proofs.host_shelf.read_rest.Goals as goal

pub returns-then-len-le-FILE_LIMIT-clause-whole : goal.returns-then-len-le-FILE_LIMIT-clause-whole
returns-then-len-le-FILE_LIMIT-clause-whole g c =
    let told = g.F.Read.remaining in
    let first = c.take.result in
    let short : length c.read_to_end.new.buf.items ≤ file_limit = search rules in
    all_given file_limit (told c.args.opened.file) _ c.in_ok-bytes.bytes.items _
    (ap (λ (n : ℕ). option_map (take n) (told first.inner)) c.take.ensures.limit ∙ ap (λ f. option_map (take (file_limit + 1)) (told f)) c.take.ensures.inner)
    c.in_ok-bytes.ensures.items c.in_ok-read_to_end.ensures.bytes short
