-- The examples of specs/Examples, computed.
use mathlib.Core.Path.{refl}
use Rattle.sets.specs.Members.{has, count, size}
use Rattle.sets.specs.Sets.{plus, first, every, within}
use Rattle.formats.specs.Records.{mark_of, mark_at, header_of, view_at}
use Rattle.text.specs.Parts.{joined}
use Rattle.formats.specs.ViewFile.{tested_at, values_read, read_from, read_of}
use Rattle.findings.specs.Findings.{agree, inside, breaks, of_one, of_pair, findings, check_of}
use Rattle.findings.specs.Verdict.{verdict_of}
use Rattle.findings.specs.Examples.{hold, ExamplesHold, P9Cuts, AllThreeFound, NotCompared, P9PassesByNeighbours}

pub examples_hold : ExamplesHold
unfolding hold verdict_of check_of findings of_one of_pair breaks agree inside joined read_of read_from header_of view_at mark_at mark_of tested_at
    values_read has plus first every count within size
examples_hold = refl

pub p9_cuts : P9Cuts
unfolding verdict_of check_of findings of_one of_pair breaks agree inside joined read_of read_from header_of view_at mark_at mark_of tested_at
    values_read has plus first every count within size
p9_cuts = refl

pub all_three_found : AllThreeFound
unfolding findings of_one of_pair breaks agree inside joined read_of read_from header_of view_at mark_at mark_of tested_at
    values_read has plus first every count within size
all_three_found = refl

pub not_compared : NotCompared
unfolding check_of findings of_one of_pair breaks agree inside joined read_of read_from header_of view_at mark_at mark_of tested_at
    values_read has plus first every count within size
not_compared = (refl, refl)

pub p9_passes_by_neighbours : P9PassesByNeighbours
unfolding of_one of_pair breaks agree inside joined read_of read_from header_of view_at mark_at mark_of tested_at
    values_read has plus first every count within size
p9_passes_by_neighbours = refl
