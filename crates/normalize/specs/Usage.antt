-- What --help prints. Assumes nothing.
use Rattle.std.specs.Prelude.{ℕ, List, ◌++◌}
use Rattle.asking.specs.Text.{ascii}

unfoldable pub usage_text : List ℕ
usage_text =
    ascii "normalize: the normal form of one change of a sequence.\n"
    ++ ascii "\n"
    ++ ascii "  normalize                 two examples\n"
    ++ ascii "  normalize --help          this text\n"
    ++ ascii "  normalize OPTION VALUE..  one change\n"
    ++ ascii "\n"
    ++ ascii "The target, by one of\n"
    ++ ascii "  --target LETTERS          its letters\n"
    ++ ascii "  --file PATH               a file of plain letters, or of FASTA with one record: its header and its line ends are skipped\n"
    ++ ascii "In both, lower case is read as upper case. A target has 1 to 65535 bases, each A, C, G or T.\n"
    ++ ascii "\n"
    ++ ascii "The change\n"
    ++ ascii "  --edit NAME               ins, dup, del, replace or inv\n"
    ++ ascii "  --range START END         counted from 0, with the end not in it; of an insertion, its two flanking bases\n"
    ++ ascii "  --alt LETTERS             what ins and replace put in, in upper case\n"
    ++ ascii "\n"
    ++ ascii "Where it may move\n"
    ++ ascii "  --kind NAME               open, transcript or crossing; open if not given\n"
    ++ ascii "  --exons LIST              of a transcript, as in 0-4,4-12\n"
    ++ ascii "  --cds START END           of a transcript; --cds-start START and --cds-end END give one of them\n"
    ++ ascii "  --direction NAME          right or left; right if not given\n"
    ++ ascii "  --window N                1 to 1024, which no answer depends on; 20 if not given\n"
    ++ ascii "\n"
    ++ ascii "The answer is its class, its range counted from 1 with both ends in it, both alleles with - for an empty one, and the probes, which are\n"
    ++ ascii "the pairs of bases that were compared. Or it is a refusal: its number, its name, and what to change.\n"
    ++ ascii "\n"
    ++ ascii "Example: normalize --target CAAATGGTACCA --edit del --range 1 2"
