mod DropLaws
mod SameLaws
