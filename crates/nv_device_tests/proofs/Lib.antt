mod TestParts
