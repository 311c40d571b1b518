mod NameLaws
